use Rattle.std.proofs.Common.{arith}
use Rattle.std.proofs.lemmas.Grind.{elements}
use Rattle.node_core.proofs.sealing.not_sealed.Goals as goal

pub overflow_cast-result : goal.overflow_cast-result
overflow_cast-result c = grind (arith, elements)

pub overflow_add-result : goal.overflow_add-result
overflow_add-result c = grind (arith, elements)
