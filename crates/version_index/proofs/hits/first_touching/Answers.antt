use Rattle.std.proofs.Common.{◌≡◌, ◌∙◌, ◌<◌, ◌≤◌, ◌⊎◌, inl, inr, ℕ, Contains, None, Some, subst, sym, true, refl}
use Rattle.row_sets.specs.Watched.{is_watched}
use Rattle.version_index.specs.Columns.{touched_at, touches_at}
use Rattle.version_index.specs.Numbers.{passes_at}
use Rattle.version_index.specs.View.{history_in}
use Rattle.version_index.proofs.Lowering.{first_of_lowers, lowers_from, lowers_then}
use Rattle.version_index.proofs.AtValues.{same_value}
use Rattle.version_index.proofs.Points.{below_or}
use Rattle.version_index.proofs.Wanted.{pinned}
use Rattle.version_index.proofs.Watching.{read_fits_table, watched_noted}
use Rattle.version_index.proofs.hits.first_touching.Goals as goal

pub first_hit-first-requires-clause-fits : goal.first_hit-first-requires-clause-fits
first_hit-first-requires-clause-fits c = read_fits_table c.args.watch.now.def.now c.args.watch.now.read.now c.args.view.now c.requires.watch

pub first_among-requires-clause-numbers : goal.first_among-requires-clause-numbers
first_among-requires-clause-numbers c =
    (touches_at c.args.view.now.table c.args.column.now.column c.args.value.now (history_in c.args.view.now), c.numbers.ensures ∙ c.requires.column.touched c.args.value.now)

-- a hit stands in the tail or touched the value
pub returns : goal.returns
returns c =
    let view = c.args.view.now in
    let watch = c.args.watch.now in
    let test = is_watched watch in
    first_of_lowers test (history_in view) c.first_among.result (λ j. (view.noted ≤ j) ⊎ Contains c.numbers.result.now j) (λ j is. either j is (below_or j view.noted))
    (lowers_then (passes_at test (history_in view)) None c.first_hit-first.result c.first_among.result (λ j. view.noted ≤ j) (Contains c.numbers.result.now) (λ j. (view.noted ≤ j) ⊎ Contains c.numbers.result.now j) (λ j wanted is. wanted)
    (lowers_from test (history_in view) view.noted c.first_hit-first.result c.first_hit-first.ensures) c.first_among.ensures)
  where
    either : (j : ℕ) → passes_at (is_watched c.args.watch.now) (history_in c.args.view.now) j ≡ true → (j < c.args.view.now.noted) ⊎ (c.args.view.now.noted ≤ j)
        → (c.args.view.now.noted ≤ j) ⊎ Contains c.numbers.result.now j
    either j is (inr past) = inl past
    either j is (inl below) =
        let column = c.args.column.now in
        let value = c.args.value.now in
        let found = watched_noted c.args.watch.now c.args.view.now column.column (Some value) (Some value) c.requires.watch c.requires.span column c.requires.column refl j is below in
        let one : value ≡ found.0 = same_value value found.0 (pinned value found.0 found.1.0 found.1.1) in
        inr (subst (λ numbers. Contains numbers j) (sym c.numbers.ensures) (subst (λ v. Contains (touched_at column.touched v) j) (sym one) found.2))
