use Rattle.std.proofs.Common.{arith}
use Rattle.std.proofs.lemmas.Grind.{common_steps}
use Rattle.std.proofs.Common.{rules}
use Rattle.canon_code.proofs.write.push_change.Goals as goal

pub returns-in-Some-None-clause-ok : goal.returns-in-Some-None-clause-ok
returns-in-Some-None-clause-ok c = search rules

pub returns-in_err-push-in-None-None-clause-front : goal.returns-in_err-push-in-None-None-clause-front
returns-in_err-push-in-None-None-clause-front c = grind (arith, common_steps)

pub returns-in_ok-push-in-None-None-clause-front : goal.returns-in_ok-push-in-None-None-clause-front
returns-in_ok-push-in-None-None-clause-front c = grind (arith, common_steps)

pub returns-in-Some-Some-clause-ok : goal.returns-in-Some-Some-clause-ok
returns-in-Some-Some-clause-ok c = grind (arith, common_steps)
