use Rattle.std.proofs.Common.{arith}
use Rattle.std.proofs.lemmas.Grind.{common_steps}
use Rattle.chain_file.proofs.sealing.push_chained.Goals as goal

pub slice_bounds-text-count : goal.slice_bounds-text-count
slice_bounds-text-count c = grind (arith, common_steps)

pub slice_bounds-text-start : goal.slice_bounds-text-start
slice_bounds-text-start c = grind (arith, common_steps)

pub returns-clause-digits : goal.returns-clause-digits
returns-clause-digits c = grind (arith, common_steps)
