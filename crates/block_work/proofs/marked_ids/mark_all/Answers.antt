use Rattle.std.proofs.Common.{ap, refl, subst, sym, ◌<◌, ◌∙◌}
use Rattle.rel_base.proofs.Bits.{or_right}
use Rattle.block_work.proofs.Marking.{all_marked, is_among, marked_next}
use Rattle.block_work.specs.Marks.{has_mark}
use Rattle.block_work.proofs.marked_ids.mark_all.Goals as goal

pub loop-id-init : goal.loop-id-init
loop-id-init g c = (λ q is. or_right (has_mark c.args.marks.now.words.items q) (is_among c.into_iter-id-iterator.result q) is, refl)

pub put-requires : goal.put-requires
put-requires g c = subst (λ n. 0 < n) (sym c.loop-id.invariant.1) c.requires

pub loop-id-preserved : goal.loop-id-preserved
loop-id-preserved g c = (
  λ q is. marked_next c.loop-id.marks.words.items c.put.new.self.words.items c.loop-id.id-iterator c.next.new.self c.in-Some.id.now c.in-Some.ensures.steps c.put.ensures.kept c.put.ensures.own q (c.loop-id.invariant.0 q is),
  c.put.ensures.len ∙ c.loop-id.invariant.1,
)

-- each id with a value is one of the keys
pub returns-clause-marked : goal.returns-clause-marked
returns-clause-marked g c q some =
    all_marked c.loop-id.marks.words.items c.loop-id.id-iterator q c.in-None.ensures.steps.0
    (c.loop-id.invariant.0 q (ap (λ ids. is_among ids q) c.into_iter-id-iterator.ensures.into_iter_gives ∙ sym (c.keys-id-items.ensures.has q) ∙ some))
