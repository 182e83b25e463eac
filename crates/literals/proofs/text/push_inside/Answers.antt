use Rattle.std.proofs.Common.{arith}
use Rattle.std.proofs.lemmas.Grind.{common_steps}
use Rattle.literals.proofs.text.push_inside.Goals as goal

pub returns-in_err-push_byte-clause-front : goal.returns-in_err-push_byte-clause-front
returns-in_err-push_byte-clause-front c = grind (arith, common_steps)

pub loop-byte-preserved : goal.loop-byte-preserved
loop-byte-preserved c = grind (arith, common_steps)

pub returns-clause-ok : goal.returns-clause-ok
returns-clause-ok c = grind (arith, common_steps)

pub returns-clause-front : goal.returns-clause-front
returns-clause-front c = grind (arith, common_steps)
