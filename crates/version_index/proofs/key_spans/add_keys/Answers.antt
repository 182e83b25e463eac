use Rattle.std.proofs.Common.{◌≡◌, ◌∙◌, ◌++◌, ◌∷◌, [], ℕ, List, refl, subst, sym, Some}
use Rattle.std.specs.BTreeMap.Range.{range_contains}
use Rattle.std.specs.List.{filter}
use Rattle.rel_base.specs.Value.{key_cmp, key_cmp-total}
use Rattle.rel_base.specs.declared.value.Value.{Value}
use Rattle.version_index.specs.Candidates.{StandsBetween}
use Rattle.version_index.specs.Chains.{slot_in}
use Rattle.version_index.proofs.Adding.{ByOne, adds_one, adds_weaker, all_done, each_next, each_start, one_over}
use Rattle.version_index.proofs.Marked.{by_keys}
use Rattle.version_index.proofs.Ranges.{found_next}
use Rattle.version_index.proofs.key_spans.add_keys.Goals as goal

pub loop-key-init : goal.loop-key-init
loop-key-init c = ([], refl, each_start c.args.view.now.index.now.chains {E = List Value × ℕ} (λ e key. key ≡ e.0) c.args.found.now.items)

pub loop-key-preserved : goal.loop-key-preserved
loop-key-preserved c =
    let e : List Value × ℕ = (c.in-Some.key.now, c.in-Some.slot.now) in
    let done = c.loop-key.invariant in
    let chains = c.args.view.now.index.now.chains in
    let slots = c.args.slots.now.entries in
    let kept : c.into_iter-key-iterator.result ≡ filter (λ e. range_contains key_cmp c.args.ends.now.low c.args.ends.now.high e.0) slots =
    c.into_iter-key-iterator.ensures.into_iter_gives ∙ c.range-key-items.ensures.between tt ∙ (λ i. filter {X = List Value × ℕ} (λ e. range_contains key_cmp (c.as_ref.ensures i) (c.as_ref-2.ensures i) e.0) slots) in
    let there : slot_in slots c.in-Some.key.now ≡ Some c.in-Some.slot.now =
    found_next key_cmp key_cmp-total slots (λ f. range_contains key_cmp c.args.ends.now.low c.args.ends.now.high f.0) done.0 c.next.new.self c.loop-key.key-iterator c.into_iter-key-iterator.result e c.range-key-items.ensures.ordered done.1
    kept c.in-Some.ensures.steps in (
      done.0 ++ e ∷ [],
      one_over done.0 c.loop-key.key-iterator c.next.new.self c.into_iter-key-iterator.result e done.1 c.in-Some.ensures.steps,
      each_next chains (λ e key. key ≡ e.0) done.0 e c.args.found.now.items c.loop-key.found.items c.push.new.self.items done.2
          (adds_one chains c.loop-key.found.items c.push.new.self.items c.in-Some.key _ (λ key. key ≡ c.in-Some.key.now) c.in_ok-push.ensures.items (sym (c.requires.own c.in-Some.key.now c.in-Some.slot.now there)) (λ k is. is)),
    )

pub returns : goal.returns
returns c =
    let view = c.args.view.now in
    let slots = c.args.slots.now.entries in
    let none : c.loop-key.key-iterator ≡ [] = c.in-None.ensures.steps.0 in
    let done = c.loop-key.invariant in
    let all : done.0 ≡ filter (λ e. range_contains key_cmp c.args.ends.now.low c.args.ends.now.high e.0) slots =
    all_done done.0 c.loop-key.key-iterator c.into_iter-key-iterator.result done.1 none ∙ c.into_iter-key-iterator.ensures.into_iter_gives ∙ c.range-key-items.ensures.between tt
    ∙ (λ i. filter {X = List Value × ℕ} (λ e. range_contains key_cmp (c.as_ref.ensures i) (c.as_ref-2.ensures i) e.0) slots) in
    adds_weaker view.index.now.chains c.args.found.now.items c.loop-key.found.items (ByOne done.0 (λ e key. key ≡ e.0)) (StandsBetween slots c.args.ends.now.low c.args.ends.now.high)
    (λ key is. subst (λ es. ByOne es (λ e k. k ≡ e.0) key) (sym all) (by_keys slots c.args.ends.now.low c.args.ends.now.high key is)) done.2
