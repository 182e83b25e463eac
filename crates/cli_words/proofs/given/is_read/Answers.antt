use Rattle.std.proofs.Common.{arith}
use Rattle.std.proofs.lemmas.Grind.{common_steps}
use Rattle.cli_words.proofs.given.is_read.Goals as goal

pub returns-in-Bad : goal.returns-in-Bad
returns-in-Bad c = grind (arith, common_steps)

pub loop-word-preserved : goal.loop-word-preserved
loop-word-preserved c = grind (arith, common_steps)

pub returns : goal.returns
returns c = grind (arith, common_steps)
