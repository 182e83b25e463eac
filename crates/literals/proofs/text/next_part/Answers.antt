use Rattle.std.proofs.Common.{arith}
use Rattle.std.proofs.lemmas.Grind.{common_steps}
use Rattle.literals.proofs.text.next_part.Goals as goal

pub returns-in-92-clause-found : goal.returns-in-92-clause-found
returns-in-92-clause-found c = grind (arith, common_steps)

pub returns-in-34-clause-found : goal.returns-in-34-clause-found
returns-in-34-clause-found c = grind (arith, common_steps)

pub returns-in-len1-up-clause-found : goal.returns-in-len1-up-clause-found
returns-in-len1-up-clause-found c = grind (arith, common_steps)

pub returns-in-empty-clause-found : goal.returns-in-empty-clause-found
returns-in-empty-clause-found c = grind (arith, common_steps)
