use Rattle.std.proofs.Common.{arith}
use Rattle.node_core.proofs.Quiet.{quiet_split, quiet_within}
use Rattle.node_core.proofs.bounds.skip_quiet.Goals as goal

pub loop-i-init : goal.loop-i-init
loop-i-init c = (quiet_split c.args.quiet c.args.rows.now c.requires, omega (arith, c.requires, quiet_within c.args.rows.now))
