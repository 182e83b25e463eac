use Rattle.std.proofs.Common.{sym, ◌∙◌}
use Rattle.rw_graph.specs.Graph.{has_edge, positions_of}
use Rattle.serial_order.proofs.Checked.{complete, sound}
use Rattle.serial_order.proofs.check.check_order.Goals as goal

pub returns-clause-sound : goal.returns-clause-sound
returns-clause-sound c = λ passes. sound (has_edge c.args.set.now) (positions_of c.args.set.now) c.args.list.now (sym c.is_serial.ensures ∙ passes)

pub returns-clause-complete : goal.returns-clause-complete
returns-clause-complete c = λ order. c.is_serial.ensures ∙ complete (has_edge c.args.set.now) (positions_of c.args.set.now) c.args.list.now c.args.set.now.rising order
