use Rattle.std.proofs.Common.{arith}
use Rattle.sha_lanes.proofs.Turning.{sigma0_nested}
use Rattle.sha_lanes.proofs.rounds.big_sigma0.Goals as goal

pub returns : goal.returns
returns c = rw (c.rotate_right-3.ensures, c.rotate_right-2.ensures, c.rotate_right.ensures) (sigma0_nested c.args.x (omega arith))
