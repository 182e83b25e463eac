use Rattle.sha_lanes.proofs.Bits.{maj_short}
use Rattle.sha_lanes.proofs.rounds.maj.Goals as goal

pub returns : goal.returns
returns c = maj_short c.args.x c.args.y c.args.z
