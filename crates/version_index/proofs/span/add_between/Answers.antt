use Rattle.std.proofs.Common.{◌≡◌, ◌∙◌, ◌++◌, ◌∷◌, ◌⊎◌, inl, inr, [], List, ℕ, refl, subst, sym}
use Rattle.std.specs.BTreeMap.Range.{range_contains}
use Rattle.std.specs.List.{filter}
use Rattle.rel_base.specs.Value.{value_cmp}
use Rattle.rel_base.specs.declared.value.Value.{Value}
use Rattle.version_index.specs.Candidates.{IsListedAbove, IsWrittenFrom, end_of}
use Rattle.version_index.specs.Columns.{list_of}
use Rattle.version_index.specs.Numbers.{ArePassing}
use Rattle.version_index.specs.Span.{IsChangedAbove, IsChangedBetween}
use Rattle.version_index.specs.View.{history_in}
use Rattle.version_index.proofs.Adding.{ByOne, adds_then, adds_weaker, all_done, each_next, each_start, on_ok, one_over}
use Rattle.version_index.proofs.Marked.{by_listed, listed_at, numbers_pass}
use Rattle.version_index.proofs.Wanted.{changed_above}
use Rattle.version_index.proofs.span.add_between.Goals as goal

pub loop-place-init : goal.loop-place-init
loop-place-init c = ([], refl, each_start c.args.view.now.index.now.chains {E = Value × ℕ} (λ e key. IsListedAbove c.args.view.now (list_of c.args.column.now.touched e.1) c.args.height key) c.args.found.now.items)

pub add_listed-requires-clause-numbers : goal.add_listed-requires-clause-numbers
add_listed-requires-clause-numbers c =
    let view = c.args.view.now in
    let column = c.args.column.now in
    let e : Value × ℕ = (c.in-Some.field-0-0.now, c.in-Some.place.now) in
    let done = c.loop-place.invariant in
    subst (ArePassing view.noted) (sym c.list.ensures)
    (numbers_pass view.table (history_in view) view.noted view.index.now.chains column c.requires.column (λ f. range_contains value_cmp (end_of c.args.low.now) (end_of c.args.high.now) f.0) done.0 c.next.new.self
    c.loop-place.place-iterator c.into_iter-place-iterator.result e c.range-place-items.ensures.ordered done.1
    (c.into_iter-place-iterator.ensures.into_iter_gives ∙ c.range-place-items.ensures.between tt
    ∙ (λ i. filter {X = Value × ℕ} (λ f. range_contains value_cmp (c.end.ensures i) (c.end-2.ensures i) f.0) column.touched.places.entries)) c.in-Some.ensures.steps)

pub loop-place-preserved : goal.loop-place-preserved
loop-place-preserved c =
    let view = c.args.view.now in
    let e : Value × ℕ = (c.in-Some.field-0-0.now, c.in-Some.place.now) in
    let done = c.loop-place.invariant in (
      done.0 ++ e ∷ [],
      one_over done.0 c.loop-place.place-iterator c.next.new.self c.into_iter-place-iterator.result e done.1 c.in-Some.ensures.steps,
      each_next view.index.now.chains (λ e key. IsListedAbove view (list_of c.args.column.now.touched e.1) c.args.height key) done.0 e c.args.found.now.items c.loop-place.found.items c.add_listed.new.found.items done.2
          (adds_weaker view.index.now.chains c.loop-place.found.items c.add_listed.new.found.items (IsListedAbove view c.list.result.now c.args.height) (IsListedAbove view (list_of c.args.column.now.touched c.in-Some.place.now) c.args.height)
          (λ key above. subst (λ ns. IsListedAbove view ns c.args.height key) (sym c.list.ensures) above) c.in_ok-add_listed.ensures),
    )

-- where there are too many values, the keys of all writes above the height are added
pub returns-then-spare-eq0 : goal.returns-then-spare-eq0
returns-then-spare-eq0 c =
    let view = c.args.view.now in
    let column = c.args.column.now.column in
    let done = c.loop-place.invariant in
    on_ok c.add_above.result (adds_then view.index.now.chains c.args.found.now.items c.loop-place.found.items c.add_above.new.found.items (ByOne done.0 (λ e key. IsListedAbove view (list_of c.args.column.now.touched e.1) c.args.height key))
    (IsChangedAbove view c.args.height) (IsChangedBetween view column c.args.low.now c.args.high.now c.args.height)
    (λ key changed. inr (changed_above view c.requires.view c.args.height column c.args.low.now c.args.high.now key changed)) done.2) c.add_above.ensures

-- a write touched a value between the ends or stands in the tail
pub returns : goal.returns
returns c =
    let view = c.args.view.now in
    let done = c.loop-place.invariant in
    on_ok c.add_from.result (adds_then view.index.now.chains c.args.found.now.items c.loop-place.found.items c.add_from.new.found.items (ByOne done.0 (λ e key. IsListedAbove view (list_of c.args.column.now.touched e.1) c.args.height key))
    (IsWrittenFrom view view.noted) (IsChangedBetween view c.args.column.now.column c.args.low.now c.args.high.now c.args.height) either done.2) c.add_from.ensures
  where
    all : c.loop-place.invariant.0 ≡ filter (λ e. range_contains value_cmp (end_of c.args.low.now) (end_of c.args.high.now) e.0) c.args.column.now.touched.places.entries
    all =
        let none : c.loop-place.place-iterator ≡ [] = c.in-None.ensures.steps.0 in
        all_done c.loop-place.invariant.0 c.loop-place.place-iterator c.into_iter-place-iterator.result c.loop-place.invariant.1 none ∙ c.into_iter-place-iterator.ensures.into_iter_gives
        ∙ c.range-place-items.ensures.between tt ∙ (λ i. filter {X = Value × ℕ} (λ e. range_contains value_cmp (c.end.ensures i) (c.end-2.ensures i) e.0) c.args.column.now.touched.places.entries)

    either : (key : List Value) → IsChangedBetween c.args.view.now c.args.column.now.column c.args.low.now c.args.high.now c.args.height key
        → ByOne c.loop-place.invariant.0 (λ e k. IsListedAbove c.args.view.now (list_of c.args.column.now.touched e.1) c.args.height k) key ⊎ IsWrittenFrom c.args.view.now c.args.view.now.noted key
    either key (value, between, inr written) = inr written
    either key (value, between, inl above) =
        let view = c.args.view.now in
        let column = c.args.column.now in
        inl (subst (λ es. ByOne es (λ e k. IsListedAbove view (list_of c.args.column.now.touched e.1) c.args.height k) key) (sym all)
        (by_listed view column c.args.low.now c.args.high.now value c.args.height key between (listed_at view column value c.args.height key c.requires.column above)))
