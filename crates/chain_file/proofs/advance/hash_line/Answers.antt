use Rattle.std.proofs.Common.{rules}
use Rattle.chain_file.proofs.advance.hash_line.Goals as goal

pub returns-in-None-default : goal.returns-in-None-default
returns-in-None-default c = search rules
