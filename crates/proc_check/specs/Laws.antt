-- What the check comes to.
use Rattle.std.specs.Prelude.{◌≡◌, ℤ, None}
use Rattle.rel_base.specs.Tables.{Tables}
use Rattle.proc_syntax.specs.declared.call.Tx.{Tx}
use Rattle.proc_syntax.specs.declared.run.Ending.{Ending}
use Rattle.proc_syntax.specs.declared.run.Ending.TheVariants as ending
use Rattle.proc_syntax.specs.declared.tree.App.{App}
use Rattle.proc_syntax.specs.Call.{call_fault}
use Rattle.proc_syntax.specs.Declaring.{tables_of}
use Rattle.rel_base.specs.Among.{TablesFit}
use Rattle.proc_syntax.specs.Run.{run}
use Rattle.proc_check.specs.Apps.{first_fault}

-- the run did not end for want of a kind, a name or a column
abbrev pub IsTyped : Ending → Type 0
IsTyped ending.Good = Unit {0}
IsTyped (ending.Faulted fault) = Unit {0}
IsTyped ending.IllTyped = ⊥

-- the run of a call that can begin, of a checked application, on tables whose rows fit
abbrev pub CheckedRunsAreTyped : Type 0
CheckedRunsAreTyped = (app : App) (tx : Tx) (time : ℤ) (tables : Tables)
    → first_fault app ≡ None → call_fault app tx ≡ None → TablesFit (tables_of app) tables → IsTyped (run app tx time tables).ending
