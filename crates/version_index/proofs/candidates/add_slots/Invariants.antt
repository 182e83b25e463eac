use Rattle.std.proofs.Common.{◌≡◌, ◌++◌, List, ℕ}
use Rattle.version_index.specs.Candidates.{Adds, HasSlot}
use Rattle.version_index.proofs.Adding.{ByOne}
use Rattle.version_index.proofs.candidates.add_slots.Given as goal

-- the keys of the slots before those that are left were added
abbrev pub invariant-loop-slot : goal.invariant-loop-slot
invariant-loop-slot l =
    (done : List ℕ) × (done ++ l.slot-iterator ≡ l.initial.slot-iterator)
    × Adds l.view.index.now.chains l.fn.found.items l.found.items (ByOne done (HasSlot l.view))
