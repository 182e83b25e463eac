use Rattle.std.proofs.Common.{◌≡◌, ◌++◌, List, ℕ}
use Rattle.rel_base.specs.declared.value.Value.{Value}
use Rattle.version_index.specs.Columns.{list_of}
use Rattle.version_index.specs.Candidates.{Adds, IsListedAbove}
use Rattle.version_index.proofs.Adding.{ByOne}
use Rattle.version_index.proofs.span.add_between.Given as goal

-- the keys of the writes above the height of the numbers at the values before those that are left were added
abbrev pub invariant-loop-place : goal.invariant-loop-place
invariant-loop-place l =
    (done : List (Value × ℕ)) × (done ++ l.place-iterator ≡ l.initial.place-iterator)
    × Adds l.view.index.now.chains l.fn.found.items l.found.items (ByOne done (λ e key. IsListedAbove l.view (list_of l.column.touched e.1) l.height key))
