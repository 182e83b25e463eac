use Rattle.std.proofs.Common.{◌≡◌, ◌∙◌, ◌++◌, ◌∷◌, [], ℕ, refl, subst, sym}
use Rattle.std.specs.BTreeSet.{BTreeSet}
use Rattle.std.specs.BTreeMap.Range.{range_contains}
use Rattle.std.specs.List.{filter}
use Rattle.rel_base.specs.Value.{value_cmp}
use Rattle.rel_base.specs.declared.value.Value.{Value}
use Rattle.version_index.specs.Candidates.{IsAtBetween, IsAtOne, end_of}
use Rattle.version_index.proofs.Adding.{ByOne, adds_weaker, all_done, each_next, each_start, one_over}
use Rattle.version_index.proofs.Marked.{by_values}
use Rattle.version_index.proofs.candidates.add_living.Goals as goal

pub loop-slots-init : goal.loop-slots-init
loop-slots-init c = ([], refl, each_start c.args.view.now.index.now.chains {E = Value × BTreeSet ℕ} (λ e key. IsAtOne c.args.view.now e.1 key) c.args.found.now.items)

pub loop-slots-preserved : goal.loop-slots-preserved
loop-slots-preserved c =
    let e : Value × BTreeSet ℕ = (c.in-Some.field-0-0.now, c.in-Some.slots.now) in
    let done = c.loop-slots.invariant in (
      done.0 ++ e ∷ [],
      one_over done.0 c.loop-slots.slots-iterator c.next.new.self c.into_iter-slots-iterator.result e done.1 c.in-Some.ensures.steps,
      each_next c.args.view.now.index.now.chains (λ e key. IsAtOne c.args.view.now e.1 key) done.0 e c.args.found.now.items c.loop-slots.found.items c.add_all_slots.new.found.items done.2 c.in_ok-add_all_slots.ensures,
    )

pub returns : goal.returns
returns c =
    let view = c.args.view.now in
    let none : c.loop-slots.slots-iterator ≡ [] = c.in-None.ensures.steps.0 in
    let done = c.loop-slots.invariant in
    let between : c.range-slots-items.result ≡ filter (λ e. range_contains value_cmp (end_of c.args.low.now) (end_of c.args.high.now) e.0) c.args.living.now.entries =
    c.range-slots-items.ensures.between tt ∙ (λ i. filter {X = Value × BTreeSet ℕ} (λ e. range_contains value_cmp (c.end.ensures i) (c.end-2.ensures i) e.0) c.args.living.now.entries) in
    let all : done.0 ≡ filter (λ e. range_contains value_cmp (end_of c.args.low.now) (end_of c.args.high.now) e.0) c.args.living.now.entries =
    all_done done.0 c.loop-slots.slots-iterator c.into_iter-slots-iterator.result done.1 none ∙ c.into_iter-slots-iterator.ensures.into_iter_gives ∙ between in
    adds_weaker view.index.now.chains c.args.found.now.items c.loop-slots.found.items (ByOne done.0 (λ e key. IsAtOne view e.1 key))
    (IsAtBetween view c.args.living.now.entries c.args.low.now c.args.high.now)
    (λ key is. subst (λ es. ByOne es (λ e k. IsAtOne view e.1 k) key) (sym all) (by_values view c.args.living.now.entries c.args.low.now c.args.high.now key is)) done.2
