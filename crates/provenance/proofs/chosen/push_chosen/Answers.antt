use Rattle.std.proofs.Common.{rules}
use Rattle.provenance.proofs.Choosing.{choose_more}
use Rattle.provenance.proofs.chosen.push_chosen.Goals as goal

pub loop-span-preserved : goal.loop-span-preserved
loop-span-preserved c =
    choose_more c.args.blocks.now c.args.choice c.args.table c.loop-span.span-iterator.rest.items c.in-Some.span c.next.new.self.rest.items c.loop-span.versions c.push_if_chosen.new.versions
    _ (search rules) c.loop-span.invariant.0 c.in_ok-push_if_chosen.ensures c.loop-span.invariant.1
