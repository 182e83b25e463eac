use Rattle.std.proofs.Common.{rules}
use Rattle.canon_code.proofs.write.read_write.Goals as goal

pub returns : goal.returns
returns c = search rules
