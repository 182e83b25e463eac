use Rattle.std.proofs.Common.{rules}
use Rattle.block_digest.proofs.digest.digest_behind.Goals as goal

pub returns : goal.returns
returns c = search rules
