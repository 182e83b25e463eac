use Rattle.std.proofs.Common.{rules}
use Rattle.load_gen.proofs.txs.height_at.Goals as goal

pub returns : goal.returns
returns c = search rules
