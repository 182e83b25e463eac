use Rattle.std.proofs.Common.{◌≡◌, ◌++◌, Contains, List, ℕ}
use Rattle.rel_base.specs.declared.value.Value.{Value}
use Rattle.row_sets.specs.Watched.{is_watched}
use Rattle.version_index.specs.Columns.{list_of}
use Rattle.version_index.specs.Hits.{Lowers}
use Rattle.version_index.specs.Numbers.{passes_at}
use Rattle.version_index.specs.View.{history_in}
use Rattle.version_index.proofs.Adding.{ByOne}
use Rattle.version_index.proofs.hits.first_between.Given as goal

-- the first hit among the numbers at the values before those that are left was found, or the one of the tail is less
abbrev pub invariant-loop-place : goal.invariant-loop-place
invariant-loop-place l =
    (done : List (Value × ℕ)) × (done ++ l.place-iterator ≡ l.initial.place-iterator)
    × Lowers (passes_at (is_watched l.watch) (history_in l.view)) l.initial.first l.first (ByOne done (λ e n. Contains (list_of l.column.touched e.1) n))
