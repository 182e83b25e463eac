-- A run of an application's code is the run of a call.
use Rattle.std.proofs.Common.{◌≡◌, ℤ, sym, ap, ◌∙◌, List, true, false, cond, Option, Some, None, Result, Ok, Err, IfOk}
use Rattle.rel_base.specs.declared.schema.TableDef.{TableDef}
use Rattle.rel_base.specs.Tables.{Tables}
use Rattle.proc_syntax.specs.declared.call.Tx.{Tx}
use Rattle.proc_syntax.specs.declared.tree.App.{App}
use Rattle.proc_syntax.specs.Declaring.{tables_of}
use Rattle.proc_syntax.specs.Run.{no_run, ran, run}
use Rattle.proc_code.specs.declared.tree.AppCode.{AppCode}
use Rattle.proc_code.specs.declared.tree.ProcCode.{ProcCode}
use Rattle.proc_code.specs.Coded.{accepts, begin, code_called, code_named, code_run, do_all}
use Rattle.proc_code.specs.Resolved.{code_of}
use Rattle.proc_code.proofs.Coded_runs.{code_runs}

-- what follows of what a call gives
pub if_ok_then : {T E : Type 0} (answer : Result T E) (Before After : T → Type 0) → IfOk answer Before → ((value : T) → Before value → After value) → IfOk answer After
if_ok_then (Ok value) Before After holds follows = follows value holds
if_ok_then (Err fault) Before After holds follows = tt

module _ (app : App) (tx : Tx) (time : ℤ) (S : Tables) (code : AppCode) (code_is : code ≡ code_of app) where
  -- of a call that names no procedure, or some
  called : (found : Option ProcCode) → found ≡ code_named code tx.procedure → code_called (tables_of app) code tx.args time S found ≡ run app tx time S
  called found named = ap (code_called (tables_of app) code tx.args time S) named ∙ ap (λ code. code_run (tables_of app) code tx time S) code_is ∙ code_runs app tx time S

  pub none_called : None ≡ code_named code tx.procedure → no_run ≡ run app tx time S
  none_called named = called None named

  module _ (procedure : ProcCode) (named : Some procedure ≡ code_named code tx.procedure) where
    pub refused : accepts procedure tx.args ≡ false → no_run ≡ run app tx time S
    refused takes =
        ap (λ b. cond b (ran (tables_of app) S (do_all (tables_of app) code.columns S procedure.body (begin procedure tx.args time))) no_run) (sym takes)
        ∙ called (Some procedure) named

    pub performed : (tables : List TableDef) → tables ≡ tables_of app → accepts procedure tx.args ≡ true → ran tables S (do_all tables code.columns S procedure.body (begin procedure tx.args time)) ≡ run app tx time S
    performed tables declared takes =
        ap (λ tables. ran tables S (do_all tables code.columns S procedure.body (begin procedure tx.args time))) declared
        ∙ ap (λ b. cond b (ran (tables_of app) S (do_all (tables_of app) code.columns S procedure.body (begin procedure tx.args time))) no_run) (sym takes)
        ∙ called (Some procedure) named
