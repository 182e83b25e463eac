use Rattle.std.proofs.Common.{arith}
use Rattle.std.proofs.lemmas.Grind.{common_steps}
use Rattle.literals.proofs.bytes.next_pair.Goals as goal

pub returns-in-len2-up-clause-found : goal.returns-in-len2-up-clause-found
returns-in-len2-up-clause-found c = grind (arith, common_steps)

pub returns-in-34-clause-found : goal.returns-in-34-clause-found
returns-in-34-clause-found c = grind (arith, common_steps)
