use Rattle.std.proofs.Common.{arith}
use Rattle.std.proofs.lemmas.Grind.{elements}
use Rattle.proc_run.proofs.path.part.Goals as goal

pub returns-in-First-Some-If : goal.returns-in-First-Some-If
returns-in-First-Some-If c = grind (arith, elements)

pub returns-in-First-Some-Get : goal.returns-in-First-Some-Get
returns-in-First-Some-Get c = grind (arith, elements)

pub returns-in-First-Some-For : goal.returns-in-First-Some-For
returns-in-First-Some-For c = grind (arith, elements)

pub returns-in-Second-Some-If : goal.returns-in-Second-Some-If
returns-in-Second-Some-If c = grind (arith, elements)

pub returns-in-Second-Some-Get : goal.returns-in-Second-Some-Get
returns-in-Second-Some-Get c = grind (arith, elements)

pub returns-in_default : goal.returns-in_default
returns-in_default c = grind (arith, elements)
