use Rattle.std.proofs.Common.{rules}
use Rattle.chain_file.proofs.step.has_digits.Goals as goal

pub returns-in-Chain : goal.returns-in-Chain
returns-in-Chain c = search rules
