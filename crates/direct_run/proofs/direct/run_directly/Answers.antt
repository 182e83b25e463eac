use Rattle.std.proofs.Common.{◌≡◌, None, Some, false, rules, subst, sym, true, w64}
use mir.Val.{SFits}
use Rattle.std.proofs.lemmas.Int.{to_z-of_z}
use Rattle.std.specs.Prelude.{IfOk}
use Rattle.proc_syntax.specs.Declaring.{tables_of}
use Rattle.proc_syntax.specs.Run.{ran, run}
use Rattle.proc_code.specs.Coded.{accepts, begin, code_named, do_all}
use Rattle.proc_code.specs.Resolved.{code_of}
use Rattle.direct_run.proofs.Calls.{none_called, performed, refused}
use Rattle.direct_run.proofs.direct.run_directly.Goals as goal

pub returns-in_default : goal.returns-in_default
returns-in_default g c =
    let app = c.args.app.now.value.app in
    let S = g.S.Snapshot.tables c.args.source.now in
    let code = c.code-code.result.now in
    let code_is : code ≡ code_of app = search rules in
    let named : None ≡ code_named code c.args.tx.now.procedure = search rules in
    let same = none_called app c.args.tx.now c.args.time S code code_is named in
    subst (λ r. r ≡ run app c.args.tx.now c.args.time S) (sym c.no_run.ensures) same

pub returns-then-not-accepts : goal.returns-then-not-accepts
returns-then-not-accepts g c =
    let app = c.args.app.now.value.app in
    let S = g.S.Snapshot.tables c.args.source.now in
    let code = c.code-code.result.now in
    let procedure = c.in-Some.procedure.now in
    let code_is : code ≡ code_of app = search rules in
    let named : Some procedure ≡ code_named code c.args.tx.now.procedure = search rules in
    let takes : accepts procedure c.args.tx.now.args ≡ false = search rules in
    let same = refused app c.args.tx.now c.args.time S code code_is procedure named takes in
    subst (λ r. r ≡ run app c.args.tx.now c.args.time S) (sym c.no_run-then-not-accepts.ensures) same

pub returns : goal.returns
returns g c =
    let app = c.args.app.now.value.app in
    let S = g.S.Snapshot.tables c.args.source.now in
    let code = c.code-code.result.now in
    let tables = c.tables.result.now in
    let procedure = c.in-Some.procedure.now in
    let code_is : code ≡ code_of app = search rules in
    let tables_are : tables ≡ tables_of app = search rules in
    let named : Some procedure ≡ code_named code c.args.tx.now.procedure = search rules in
    let takes : accepts procedure c.args.tx.now.args ≡ true = search rules in
    let fits : SFits w64 c.args.time = search rules in
    let same = performed app c.args.tx.now c.args.time S code code_is procedure named tables tables_are takes in
    subst (λ meant. IfOk c.run_procedure.result (λ r. r ≡ meant)) same
    (subst (λ time. IfOk c.run_procedure.result (λ r. r ≡ ran tables S (do_all tables code.columns S procedure.body (begin procedure c.args.tx.now.args time)))) (to_z-of_z w64 c.args.time fits) c.run_procedure.ensures)
