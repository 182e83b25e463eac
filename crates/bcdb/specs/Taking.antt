-- What was read of the files of a simulation, against what is meant.
use Rattle.std.specs.Prelude.{Err, Ok, Result, ◌≡◌}
use Rattle.bcdb.specs.declared.refusal.Refusal.{Refusal}
use Rattle.proc_check.specs.declared.checked.Checked.{Checked}
use Rattle.proc_syntax.specs.declared.tree.App.{App}

-- an application, or why it is refused
abbrev pub GivesApp : Result Checked Refusal → Result App Refusal → Type 0
GivesApp (Ok checked) meant = meant ≡ Ok checked.app
GivesApp (Err refusal) meant = meant ≡ Err refusal
