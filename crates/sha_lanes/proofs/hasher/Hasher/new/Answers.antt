use Rattle.std.proofs.Common.{rules}
use Rattle.sha2.specs.Sha256.{hash_after}
use Rattle.sha_lanes.specs.Absorbed.{Holds}
use Rattle.sha_lanes.proofs.hasher.Hasher.new.Goals as goal

pub returns : goal.returns
unfolding Holds hash_after
returns c = search rules
