use Rattle.std.proofs.Common.{arith}
use Rattle.std.proofs.lemmas.Grind.{common_steps}
use Rattle.proc_parse.proofs.lexer.next_piece.Goals as goal

pub returns-in-10 : goal.returns-in-10
returns-in-10 c = grind (arith, common_steps)

pub returns-in-32 : goal.returns-in-32
returns-in-32 c = grind (arith, common_steps)

pub returns-in-35 : goal.returns-in-35
returns-in-35 c = grind (arith, common_steps)

pub returns-in-97-to-122 : goal.returns-in-97-to-122
returns-in-97-to-122 c = grind (arith, common_steps)

pub returns-in_default : goal.returns-in_default
returns-in_default c = grind (arith, common_steps)
