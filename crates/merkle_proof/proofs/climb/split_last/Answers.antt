use Rattle.std.proofs.Common.{refl}
use Rattle.merkle_proof.proofs.Ways.{parted}
use Rattle.merkle_proof.proofs.climb.split_last.Goals as goal

pub returns : goal.returns
returns c = parted c.args.path.now c.split_at.result.0.now c.split_at.result.1.now _ c.requires c.split_at.ensures.front c.split_at.ensures.back refl
