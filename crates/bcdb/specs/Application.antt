-- What is reported of an application that is refused.
use Rattle.std.specs.Prelude.{Err, Result, ◌≡◌}
use Rattle.bcdb.specs.declared.application.AppFault.TheVariants as fault
use Rattle.bcdb.specs.declared.application.AppFault.{AppFault}
use Rattle.bcdb.specs.declared.refusal.Refusal.{Refusal}
use Rattle.proc_syntax.specs.declared.tree.App.{App}

-- it is refused for the reason that is reported, but where memory ran out
abbrev pub IsRefused : AppFault → Result App Refusal → Type 0
IsRefused fault.NoMemory meant = Unit {0}
IsRefused (fault.Refused refusal) meant = meant ≡ Err refusal
