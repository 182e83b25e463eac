use Rattle.std.proofs.Common.{arith}
use Rattle.std.proofs.lemmas.Grind.{common_steps}
use Rattle.chain_file.proofs.finish.keep_going.Goals as goal

pub invariant_of-spot : goal.invariant_of-spot
invariant_of-spot c = grind (arith, common_steps)
