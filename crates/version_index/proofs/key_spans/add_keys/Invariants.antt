use Rattle.std.proofs.Common.{◌≡◌, ◌++◌, List, ℕ}
use Rattle.rel_base.specs.declared.value.Value.{Value}
use Rattle.version_index.specs.Candidates.{Adds}
use Rattle.version_index.proofs.Adding.{ByOne}
use Rattle.version_index.proofs.key_spans.add_keys.Given as goal

-- the keys before those that are left were added
abbrev pub invariant-loop-key : goal.invariant-loop-key
invariant-loop-key l =
    (done : List (List Value × ℕ)) × (done ++ l.key-iterator ≡ l.initial.key-iterator)
    × Adds l.view.index.now.chains l.fn.found.items l.found.items (ByOne done (λ e key. key ≡ e.0))
