use Rattle.block_work.proofs.Marking.{less_marked}
use Rattle.block_work.proofs.marked_ids.MarkedIds.remove.Goals as goal

pub invariant_of-self : goal.invariant_of-self
invariant_of-self g c = (
  c.remove.ensures.ordered,
  less_marked c.self.inside.values.entries c.remove.new.self.entries c.self.inside.marks.words.items c.args.id.now c.remove.ensures.updates.0 c.self.invariant.1,
)
