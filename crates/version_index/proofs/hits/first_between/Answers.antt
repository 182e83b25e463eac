use Rattle.std.proofs.Common.{◌≡◌, ◌∙◌, ◌≤◌, ◌<◌, ◌⊎◌, inl, inr, ◌++◌, ◌∷◌, [], Contains, None, ℕ, refl, subst, sym, true}
use Rattle.std.specs.BTreeMap.Range.{range_contains}
use Rattle.std.specs.List.{filter}
use Rattle.rel_base.specs.Value.{value_cmp}
use Rattle.rel_base.specs.declared.value.Value.{Value}
use Rattle.row_sets.specs.Watched.{is_watched}
use Rattle.version_index.specs.Candidates.{end_of}
use Rattle.version_index.specs.Columns.{list_of}
use Rattle.version_index.specs.Numbers.{ArePassing, passes_at}
use Rattle.version_index.specs.View.{history_in}
use Rattle.version_index.proofs.Adding.{ByOne, all_done, one_over}
use Rattle.version_index.proofs.Lowering.{first_of_lowers, lowers_from, lowers_next, lowers_start, lowers_then, lowers_weaker}
use Rattle.version_index.proofs.Marked.{by_numbers, numbers_pass}
use Rattle.version_index.proofs.Points.{below_or}
use Rattle.version_index.proofs.Watching.{read_fits_table, watched_noted}
use Rattle.version_index.proofs.hits.first_between.Goals as goal

pub first_hit-first-requires-clause-fits : goal.first_hit-first-requires-clause-fits
first_hit-first-requires-clause-fits c = read_fits_table c.args.watch.now.def.now c.args.watch.now.read.now c.args.view.now c.requires.watch

pub loop-place-init : goal.loop-place-init
loop-place-init c = (
  [],
  refl,
  lowers_start (passes_at (is_watched c.args.watch.now) (history_in c.args.view.now)) {E = Value × ℕ} (λ e n. Contains (list_of c.args.column.now.touched e.1) n) c.first_hit-first.result,
)

pub first_among-first-requires-clause-numbers : goal.first_among-first-requires-clause-numbers
first_among-first-requires-clause-numbers c =
    let view = c.args.view.now in
    let column = c.args.column.now in
    let e : Value × ℕ = (c.in-Some.field-0-0.now, c.in-Some.place.now) in
    let done = c.loop-place.invariant in
    subst (ArePassing view.noted) (sym c.list.ensures)
    (numbers_pass view.table (history_in view) view.noted view.index.now.chains column c.requires.column (λ f. range_contains value_cmp (end_of c.args.low.now) (end_of c.args.high.now) f.0) done.0 c.next.new.self c.loop-place.place-iterator
    c.into_iter-place-iterator.result e c.range-place-items.ensures.ordered done.1 (c.into_iter-place-iterator.ensures.into_iter_gives ∙ c.range-place-items.ensures.between tt
    ∙ (λ i. filter {X = Value × ℕ} (λ f. range_contains value_cmp (c.end.ensures i) (c.end-2.ensures i) f.0) column.touched.places.entries)) c.in-Some.ensures.steps)

pub loop-place-preserved : goal.loop-place-preserved
loop-place-preserved c =
    let view = c.args.view.now in
    let e : Value × ℕ = (c.in-Some.field-0-0.now, c.in-Some.place.now) in
    let done = c.loop-place.invariant in (
      done.0 ++ e ∷ [],
      one_over done.0 c.loop-place.place-iterator c.next.new.self c.into_iter-place-iterator.result e done.1 c.in-Some.ensures.steps,
      lowers_next (passes_at (is_watched c.args.watch.now) (history_in view)) (λ e n. Contains (list_of c.args.column.now.touched e.1) n) done.0 e c.first_hit-first.result c.loop-place.first c.first_among-first.result done.2
          (lowers_weaker (passes_at (is_watched c.args.watch.now) (history_in view)) c.loop-place.first c.first_among-first.result (Contains c.list.result.now) (Contains (list_of c.args.column.now.touched c.in-Some.place.now))
          (λ j inside is. subst (λ ns. Contains ns j) (sym c.list.ensures) inside) c.first_among-first.ensures),
    )

-- a hit stands in the tail or touched a value between the ends
pub returns : goal.returns
returns c =
    let view = c.args.view.now in
    let test = is_watched c.args.watch.now in
    let done = c.loop-place.invariant in
    first_of_lowers test (history_in view) c.loop-place.first (λ j. (view.noted ≤ j) ⊎ ByOne done.0 (λ e n. Contains (list_of c.args.column.now.touched e.1) n) j) (λ j is. either j is (below_or j view.noted))
    (lowers_then (passes_at test (history_in view)) None c.first_hit-first.result c.loop-place.first (λ j. view.noted ≤ j) (ByOne done.0 (λ e n. Contains (list_of c.args.column.now.touched e.1) n))
    (λ j. (view.noted ≤ j) ⊎ ByOne done.0 (λ e n. Contains (list_of c.args.column.now.touched e.1) n) j) (λ j wanted is. wanted) (lowers_from test (history_in view) view.noted c.first_hit-first.result c.first_hit-first.ensures) done.2)
  where
    all : c.loop-place.invariant.0 ≡ filter (λ e. range_contains value_cmp (end_of c.args.low.now) (end_of c.args.high.now) e.0) c.args.column.now.touched.places.entries
    all =
        let none : c.loop-place.place-iterator ≡ [] = c.in-None.ensures.steps.0 in
        all_done c.loop-place.invariant.0 c.loop-place.place-iterator c.into_iter-place-iterator.result c.loop-place.invariant.1 none ∙ c.into_iter-place-iterator.ensures.into_iter_gives
        ∙ c.range-place-items.ensures.between tt ∙ (λ i. filter {X = Value × ℕ} (λ e. range_contains value_cmp (c.end.ensures i) (c.end-2.ensures i) e.0) c.args.column.now.touched.places.entries)

    either : (j : ℕ) → passes_at (is_watched c.args.watch.now) (history_in c.args.view.now) j ≡ true → (j < c.args.view.now.noted) ⊎ (c.args.view.now.noted ≤ j)
        → (c.args.view.now.noted ≤ j) ⊎ ByOne c.loop-place.invariant.0 (λ e n. Contains (list_of c.args.column.now.touched e.1) n) j
    either j is (inr past) = inl past
    either j is (inl below) =
        let column = c.args.column.now in
        let found = watched_noted c.args.watch.now c.args.view.now column.column c.args.low.now c.args.high.now c.requires.watch c.requires.span column c.requires.column refl j is below in
        inr (subst (λ es. ByOne es (λ e n. Contains (list_of c.args.column.now.touched e.1) n) j) (sym all) (by_numbers column.touched c.args.low.now c.args.high.now found.0 j found.1 found.2))
