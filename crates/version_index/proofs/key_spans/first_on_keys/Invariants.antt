use Rattle.std.proofs.Common.{◌≡◌, ◌++◌, Contains, List, Some, ℕ}
use Rattle.rel_base.specs.declared.value.Value.{Value}
use Rattle.row_sets.specs.Watched.{is_watched}
use Rattle.version_index.specs.Chains.{lists_of, numbers_at}
use Rattle.version_index.specs.Hits.{Lowers}
use Rattle.version_index.specs.Numbers.{passes_at}
use Rattle.version_index.specs.View.{history_in}
use Rattle.version_index.proofs.Adding.{ByOne}
use Rattle.version_index.proofs.key_spans.first_on_keys.Given as goal

-- the first hit on the keys before those that are left was found, or the number that was given is less
abbrev pub invariant-loop-slot : goal.invariant-loop-slot
invariant-loop-slot l =
    (done : List (List Value × ℕ)) × (done ++ l.slot-iterator ≡ l.initial.slot-iterator)
    × Lowers (passes_at (is_watched l.watch) (history_in l.view)) l.fn.found l.first (ByOne done (λ e n. Contains (numbers_at (lists_of l.view.index.now.chains) (Some e.1)) n))
