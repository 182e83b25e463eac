use Rattle.sha_lanes.proofs.Lanes.{sigma0_lanes}
use Rattle.sha_lanes.proofs.words.small_sigma0.Goals as goal

pub returns : goal.returns
returns c = sigma0_lanes c.args.x c.fits-x.0
