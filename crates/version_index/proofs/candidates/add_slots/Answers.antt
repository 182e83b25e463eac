use Rattle.std.proofs.Common.{◌≡◌, ◌∙◌, ◌++◌, ◌∷◌, [], subst, sym, refl}
use Rattle.version_index.specs.Candidates.{HasSlot, IsAtOne}
use Rattle.version_index.proofs.Adding.{ByOne, adds_weaker, all_done, each_next, each_start, one_over}
use Rattle.version_index.proofs.Marked.{by_slot}
use Rattle.version_index.proofs.candidates.add_slots.Goals as goal

pub loop-slot-init : goal.loop-slot-init
loop-slot-init c = ([], refl, each_start c.args.view.now.index.now.chains (HasSlot c.args.view.now) c.args.found.now.items)

pub loop-slot-preserved : goal.loop-slot-preserved
loop-slot-preserved c =
    let e = c.in-Some.slot.now in
    let done = c.loop-slot.invariant in (
      done.0 ++ e ∷ [],
      one_over done.0 c.loop-slot.slot-iterator c.next.new.self c.into_iter-slot-iterator.result e done.1 c.in-Some.ensures.steps,
      each_next c.args.view.now.index.now.chains (HasSlot c.args.view.now) done.0 e c.args.found.now.items c.loop-slot.found.items c.add_slot.new.found.items done.2 c.in_ok-add_slot.ensures,
    )

pub returns : goal.returns
returns c =
    let none : c.loop-slot.slot-iterator ≡ [] = c.in-None.ensures.steps.0 in
    let done = c.loop-slot.invariant in
    let all : done.0 ≡ c.args.slots.now.keys = all_done done.0 c.loop-slot.slot-iterator c.into_iter-slot-iterator.result done.1 none ∙ c.into_iter-slot-iterator.ensures.into_iter_gives ∙ c.iter-slot-items.ensures.rest in
    adds_weaker c.args.view.now.index.now.chains c.args.found.now.items c.loop-slot.found.items (ByOne done.0 (HasSlot c.args.view.now)) (IsAtOne c.args.view.now c.args.slots.now)
    (λ key is. subst (λ es. ByOne es (HasSlot c.args.view.now) key) (sym all) (by_slot c.args.view.now c.args.slots.now key is)) done.2
