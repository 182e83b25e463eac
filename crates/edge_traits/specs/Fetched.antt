-- What the fetch of a file tells of failed reads.
use Rattle.std.specs.Prelude.{ℕ, ◌≡◌, List, Result, Ok, Err}
use Rattle.edge_traits.specs.Causes.{Counts, Rose}
use Rattle.edge_traits.specs.declared.whole.FetchFault.{FetchFault}
use Rattle.edge_traits.specs.declared.whole.FetchFault.TheVariants as fault

-- A fetch that tells of a failed read raised the count of its name, and any other leaves each count as it was.
abbrev pub TellsFailure : {T : Type 0} → Result T FetchFault → List ℕ → Counts → Counts → Type 0
TellsFailure (Err fault.Failed) name before now = Rose (before name) (now name)
TellsFailure (Err fault.TooLong) name before now = now ≡ before
TellsFailure (Err fault.NoMemory) name before now = now ≡ before
TellsFailure (Ok value) name before now = now ≡ before
