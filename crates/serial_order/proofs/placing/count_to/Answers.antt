use Rattle.std.proofs.Common.{sym, ◌∙◌}
use Rattle.rel_base.proofs.Bits.{first_true}
use Rattle.rw_graph.proofs.Counted.{same_count}
use Rattle.rw_graph.specs.Graph.{has_edge, positions_of}
use Rattle.rw_graph.specs.Held.{holds}
use Rattle.rw_graph.specs.Sets.{is_among}
use Rattle.serial_order.proofs.Unreached.{comers_none, unreached}
use Rattle.serial_order.proofs.placing.count_to.Goals as goal

-- no edge comes to what is no position of the set
pub returns-in-None : goal.returns-in-None
returns-in-None c =
    sym (comers_none (has_edge c.args.set.now) c.args.to (positions_of c.args.set.now)
    (unreached (has_edge c.args.set.now) c.args.to (positions_of c.args.set.now) c.args.set.now.between c.in-None.ensures))

pub returns-in-Some : goal.returns-in-Some
returns-in-Some c =
    c.count.ensures (positions_of c.args.set.now) c.args.set.now.rising
    (λ from held. first_true (is_among (positions_of c.args.set.now) from) (is_among (positions_of c.args.set.now) c.args.to) (c.args.set.now.between from c.args.to (sym (c.in-Some.ensures.1 from) ∙ held)))
    ∙ same_count (holds c.in-Some.into.now) (λ from. has_edge c.args.set.now from c.args.to) (positions_of c.args.set.now) (λ from among. c.in-Some.ensures.1 from)
