use Rattle.std.proofs.Common.{◌≡◌, List, rules, subst}
use Rattle.rel_base.specs.declared.schema.TableDef.{TableDef}
use Rattle.rel_base.specs.Tables.{Tables}
use Rattle.row_sets.specs.Overlay.{AreFound}
use Rattle.proc_syntax.specs.Run.{ran}
use Rattle.proc_code.specs.Coded.{Progress, begin, do_all}
use Rattle.direct_run.specs.Runs.{state_of}
use Rattle.direct_run.specs.Steps.{Ends}
use Rattle.direct_run.proofs.Calls.{if_ok_then}
use Rattle.direct_run.proofs.direct.run_procedure.Goals as goal

pub returns : goal.returns
returns g c =
    let ground = c.args.ground.now in
    let S = g.S.Snapshot.tables ground.source.now in
    let procedure = c.args.procedure.now in
    let does = do_all ground.tables.now ground.columns.now S procedure.body in
    let begun = begin procedure c.args.tx.now.args c.args.time in
    let meant = does begun in
    let run = c.perform_all-ended.new.run in
    let ended = c.perform_all-ended.result in
    let at_first : state_of c.in_ok-run.run' ≡ begun = search rules in
    let ends : Ends ended (state_of run) meant =
    subst (λ st. Ends ended (state_of run) (does st)) at_first
    (subst (λ body. Ends ended (state_of run) (do_all ground.tables.now ground.columns.now S body (state_of c.in_ok-run.run'))) c.as_slice-2.ensures c.perform_all-ended.ensures.ends) in
    if_ok_then c.gives.result (λ r. (declared : List TableDef) (tables : Tables) (meant : Progress) → AreFound declared tables run.own → Ends ended (state_of run) meant → r ≡ ran declared tables meant) (λ r. r ≡ ran ground.tables.now S meant) c.gives.ensures
    (λ r is. is ground.tables.now S meant c.perform_all-ended.ensures.found ends)
