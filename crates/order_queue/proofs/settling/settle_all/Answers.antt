use Rattle.std.specs.Prelude.{◌≡◌, ◌+◌, ℕ, get_or, slice_index}
use Rattle.std.specs.Vec.Iter.{into_iter_items}
use Rattle.std.proofs.Common.{rules, arith, ap, ◌∙◌, subst, ◌∷◌, add-one}
use Rattle.order_queue.specs.Works.{WorksFor}
use Rattle.order_queue.proofs.settling.settle_all.Goals as goal

pub settle-requires-clause-work : goal.settle-requires-clause-work
settle-requires-clause-work g c κs within =
    let steps = c.in-Some.ensures.steps in
    let z = c.args.shared.now.queue.table.shared.table_id in
    let first : get_or (into_iter_items c.loop-work.work-iterator) 0 c.in-Some.work ≡ c.in-Some.work = ap (λ l. get_or l 0 c.in-Some.work) steps.0 in
    let h = c.loop-work.invariant.4 0 c.in-Some.work (omega arith) in
    let zero_more : c.loop-work.done + 0 ≡ c.loop-work.done = omega arith in
    subst (λ p. WorksFor z (c.loop-work.done + 1) (get_or c.args.counts.now c.loop-work.done 0) p) first
    (subst (λ (i : ℕ). WorksFor z (i + 1) (get_or c.args.counts.now i 0) (get_or (into_iter_items c.loop-work.work-iterator) 0 c.in-Some.work)) zero_more h)

pub loop-work-preserved : goal.loop-work-preserved
loop-work-preserved g c = (
  search rules,
  search rules,
  search rules,
  search rules,
  λ k d below.
      let steps = c.in-Some.ensures.steps in
      let z = c.args.shared.now.queue.table.shared.table_id in
      let next : get_or (into_iter_items c.loop-work.work-iterator) (k + 1) d ≡ get_or (into_iter_items c.next.new.self) k d =
      ap (λ l. get_or l (k + 1) d) steps.0 ∙ ap (λ (i : ℕ). get_or (c.in-Some.work ∷ into_iter_items c.next.new.self) i d) (add-one k) in
      let h = c.loop-work.invariant.4 (k + 1) d (omega arith) in
      let same : c.loop-work.done + (k + 1) ≡ c.loop-work.done + 1 + k = omega arith in
      subst (λ p. WorksFor z (c.loop-work.done + 1 + k + 1) (slice_index c.args.counts.now (c.loop-work.done + 1 + k)) p) next
      (subst (λ (i : ℕ). WorksFor z (i + 1) (slice_index c.args.counts.now i) (get_or (into_iter_items c.loop-work.work-iterator) (k + 1) d)) same h),
)
