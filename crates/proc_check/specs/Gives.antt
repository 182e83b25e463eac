-- What a step answers is what the walk finds, but where memory ran out.
use Rattle.std.specs.Prelude.{◌≡◌, Result, Ok, Err, Option, Some}
use Rattle.proc_check.specs.declared.fault.Bad.{Bad}
use Rattle.proc_check.specs.declared.fault.CheckFault.{CheckFault}
use Rattle.proc_check.specs.declared.fault.CheckFault.TheVariants as fault

abbrev pub Gives : {A : Type 0} → Result A CheckFault → Result A Bad → Type 0
Gives (Ok answer) meant = meant ≡ Ok answer
Gives (Err fault.NoMemory) meant = Unit {0}
Gives (Err (fault.Bad line kind)) meant = meant ≡ Err (record { line = line; kind = kind })

-- a fault is the first one, but where memory ran out
abbrev pub IsFirst : CheckFault → Option Bad → Type 0
IsFirst fault.NoMemory first = Unit {0}
IsFirst (fault.Bad line kind) first = first ≡ Some (record { line = line; kind = kind })
