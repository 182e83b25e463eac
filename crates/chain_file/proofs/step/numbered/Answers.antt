use Rattle.std.proofs.Common.{rules}
use Rattle.chain_file.proofs.step.numbered.Goals as goal

pub returns-then-not-has_digits : goal.returns-then-not-has_digits
returns-then-not-has_digits c = search rules
