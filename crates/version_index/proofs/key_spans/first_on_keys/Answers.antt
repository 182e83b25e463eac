use Rattle.std.proofs.Common.{◌≡◌, ◌∙◌, ◌++◌, ◌∷◌, [], Contains, List, Some, ℕ, refl, subst, sym}
use Rattle.std.specs.BTreeMap.Range.{range_contains}
use Rattle.std.specs.List.{filter}
use Rattle.rel_base.specs.Value.{key_cmp}
use Rattle.rel_base.specs.declared.value.Value.{Value}
use Rattle.row_sets.specs.Watched.{is_watched}
use Rattle.version_index.specs.Chains.{lists_of, numbers_at}
use Rattle.version_index.specs.Hits.{IsNumberBetween}
use Rattle.version_index.specs.Numbers.{ArePassing, passes_at}
use Rattle.version_index.specs.View.{history_in}
use Rattle.version_index.proofs.Adding.{ByOne, all_done, one_over}
use Rattle.version_index.proofs.Lowering.{lowers_next, lowers_start, lowers_weaker}
use Rattle.version_index.proofs.Marked.{by_slots}
use Rattle.version_index.proofs.OnKeys.{slot_passes}
use Rattle.version_index.proofs.key_spans.first_on_keys.Goals as goal

pub loop-slot-init : goal.loop-slot-init
loop-slot-init c = (
  [],
  refl,
  lowers_start (passes_at (is_watched c.args.watch.now) (history_in c.args.view.now)) {E = List Value × ℕ} (λ e n. Contains (numbers_at (lists_of c.args.view.now.index.now.chains) (Some e.1)) n) c.args.found,
)

pub first_among-first-requires-clause-numbers : goal.first_among-first-requires-clause-numbers
first_among-first-requires-clause-numbers c = subst (ArePassing c.args.view.now.noted) (sym c.numbers.ensures) (slot_passes c.args.view.now c.requires.view c.in-Some.slot.now)

pub loop-slot-preserved : goal.loop-slot-preserved
loop-slot-preserved c =
    let hit = passes_at (is_watched c.args.watch.now) (history_in c.args.view.now) in
    let chains = c.args.view.now.index.now.chains in
    let e : List Value × ℕ = (c.in-Some.field-0-0.now, c.in-Some.slot.now) in
    let done = c.loop-slot.invariant in (
      done.0 ++ e ∷ [],
      one_over done.0 c.loop-slot.slot-iterator c.next.new.self c.into_iter-slot-iterator.result e done.1 c.in-Some.ensures.steps,
      lowers_next hit (λ e n. Contains (numbers_at (lists_of chains) (Some e.1)) n) done.0 e c.args.found c.loop-slot.first c.first_among-first.result done.2
          (lowers_weaker hit c.loop-slot.first c.first_among-first.result (Contains c.numbers.result.now) (Contains (numbers_at (lists_of chains) (Some c.in-Some.slot.now))) (λ j inside is. subst (λ ns. Contains ns j) (sym c.numbers.ensures) inside)
          c.first_among-first.ensures),
    )

pub returns : goal.returns
returns c =
    let hit = passes_at (is_watched c.args.watch.now) (history_in c.args.view.now) in
    let chains = c.args.view.now.index.now.chains in
    let slots = c.args.slots.now.entries in
    let none : c.loop-slot.slot-iterator ≡ [] = c.in-None.ensures.steps.0 in
    let done = c.loop-slot.invariant in
    let all : done.0 ≡ filter (λ e. range_contains key_cmp c.args.ends.now.low c.args.ends.now.high e.0) slots =
    all_done done.0 c.loop-slot.slot-iterator c.into_iter-slot-iterator.result done.1 none ∙ c.into_iter-slot-iterator.ensures.into_iter_gives ∙ c.range-slot-items.ensures.between tt
    ∙ (λ i. filter {X = List Value × ℕ} (λ e. range_contains key_cmp (c.as_ref.ensures i) (c.as_ref-2.ensures i) e.0) slots) in
    lowers_weaker hit c.args.found c.loop-slot.first (ByOne done.0 (λ e n. Contains (numbers_at (lists_of chains) (Some e.1)) n)) (IsNumberBetween chains slots c.args.ends.now.low c.args.ends.now.high)
    (λ j wanted is. subst (λ es. ByOne es (λ e n. Contains (numbers_at (lists_of chains) (Some e.1)) n) j) (sym all) (by_slots chains slots c.args.ends.now.low c.args.ends.now.high j wanted)) done.2
