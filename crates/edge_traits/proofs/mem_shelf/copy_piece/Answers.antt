use Rattle.std.proofs.Common.{arith}
use Rattle.std.proofs.lemmas.Grind.{common_steps}
use Rattle.edge_traits.proofs.mem_shelf.copy_piece.Goals as goal

pub returns-then-at-file-clause-most : goal.returns-then-at-file-clause-most
returns-then-at-file-clause-most c = grind (arith, common_steps)

pub returns-clause-piece : goal.returns-clause-piece
returns-clause-piece c = grind (arith, common_steps)

pub returns-clause-most : goal.returns-clause-most
returns-clause-most c = grind (arith, common_steps)
