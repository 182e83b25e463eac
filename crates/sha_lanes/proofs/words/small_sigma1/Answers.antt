use Rattle.sha_lanes.proofs.Lanes.{sigma1_lanes}
use Rattle.sha_lanes.proofs.words.small_sigma1.Goals as goal

pub returns : goal.returns
returns c = sigma1_lanes c.args.x c.fits-x.0
