-- What code comes to.
use Rattle.std.specs.Prelude.{◌≡◌, ℤ}
use Rattle.rel_base.specs.Tables.{Tables}
use Rattle.proc_syntax.specs.declared.call.Tx.{Tx}
use Rattle.proc_syntax.specs.declared.tree.App.{App}
use Rattle.proc_syntax.specs.Declaring.{tables_of}
use Rattle.proc_syntax.specs.Run.{run}
use Rattle.proc_code.specs.Coded.{code_run}
use Rattle.proc_code.specs.Resolved.{code_of}

-- the run of an application's code is the run of the application: its reads with their rows, its writes and its end
abbrev pub CodeRunsAreRuns : Type 0
CodeRunsAreRuns = (app : App) (tx : Tx) (time : ℤ) (tables : Tables) → code_run (tables_of app) (code_of app) tx time tables ≡ run app tx time tables
