use Rattle.std.proofs.Common.{arith, rules, ◌≤◌}
use Rattle.node_core.proofs.Quiet.{left_is, quiet_above, quiet_within}
use Rattle.node_core.proofs.bounds.WaitBounds.first_place.Goals as goal

pub returns-then-height-self-clause-within : goal.returns-then-height-self-clause-within
returns-then-height-self-clause-within c rows was = was.within

pub returns-then-height-self-clause-all : goal.returns-then-height-self-clause-all
returns-then-height-self-clause-all c rows was = left_is c.args.height c.args.self.now.above c.args.self.now.passed rows (let lower : c.args.height ≤ c.args.self.now.above = search rules in lower) was.above

pub returns-clause-within : goal.returns-clause-within
returns-clause-within c rows was = omega (arith, was.quiet, quiet_within rows)

pub returns-clause-all : goal.returns-clause-all
returns-clause-all c rows was = left_is c.args.height c.args.height c.args.self.now.quiet rows (omega arith) (quiet_above c.args.height c.args.self.now.quiet rows was.quiet)
