use Rattle.std.proofs.Common.{rules}
use Rattle.block_digest.proofs.read_block.read_block.Goals as goal

pub returns : goal.returns
returns c = search rules
