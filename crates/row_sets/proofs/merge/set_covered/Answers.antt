use Rattle.std.proofs.Common.{rules}
use Rattle.row_sets.proofs.merge.set_covered.Goals as goal

pub returns-else-branch : goal.returns-else-branch
returns-else-branch c = search rules
