use Rattle.std.proofs.Common.{arith}
use Rattle.std.proofs.lemmas.Grind.{common_steps}
use Rattle.block_work.proofs.Marking.{more_marked}
use Rattle.block_work.proofs.marked_ids.MarkedIds.insert.Goals as goal

pub invariant_of-self-2 : goal.invariant_of-self-2
invariant_of-self-2 g c = (
  c.insert.ensures.ordered,
  more_marked c.self.inside.values.entries c.insert.new.self.entries c.hold_mark.new.marks.words.items c.put.new.self.words.items c.args.id c.args.value c.in_ok-insert.ensures.updates.0
      c.put.ensures.kept c.put.ensures.own c.hold_mark.ensures.new,
)

pub returns-clause-set : goal.returns-clause-set
returns-clause-set g c = grind (arith, common_steps)
