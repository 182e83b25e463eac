use Rattle.std.proofs.Common.{arith}
use Rattle.std.proofs.lemmas.Grind.{elements}
use Rattle.proc_check.proofs.tables.is_spanned.Goals as goal

pub returns-then-is_listed_first : goal.returns-then-is_listed_first
returns-then-is_listed_first c = grind (arith, elements)

pub returns-else-is_listed_first : goal.returns-else-is_listed_first
returns-else-is_listed_first c = grind (arith, elements)

pub returns-in-None : goal.returns-in-None
returns-in-None c = grind (arith, elements)
