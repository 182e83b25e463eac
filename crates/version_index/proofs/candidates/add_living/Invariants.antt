use Rattle.std.proofs.Common.{◌≡◌, ◌++◌, List, ℕ}
use Rattle.std.specs.BTreeSet.{BTreeSet}
use Rattle.rel_base.specs.declared.value.Value.{Value}
use Rattle.version_index.specs.Candidates.{Adds, IsAtOne}
use Rattle.version_index.proofs.Adding.{ByOne}
use Rattle.version_index.proofs.candidates.add_living.Given as goal

-- the keys of the slots at the values before those that are left were added
abbrev pub invariant-loop-slots : goal.invariant-loop-slots
invariant-loop-slots l =
    (done : List (Value × BTreeSet ℕ)) × (done ++ l.slots-iterator ≡ l.initial.slots-iterator)
    × Adds l.view.index.now.chains l.fn.found.items l.found.items (ByOne done (λ e key. IsAtOne l.view e.1 key))
