use Rattle.std.proofs.Common.{arith}
use Rattle.std.proofs.lemmas.Grind.{common_steps, elements}
use Rattle.block_work.proofs.listing.list_tables.Goals as goal

pub list_table-requires : goal.list_table-requires
list_table-requires g c = grind (arith, elements)

pub loop-number-preserved : goal.loop-number-preserved
loop-number-preserved g c = grind (arith, common_steps)

pub returns : goal.returns
returns g c = grind (arith, common_steps)
