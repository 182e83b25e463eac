use Rattle.std.proofs.Common.{arith}
use Rattle.load_gen.proofs.Stepping.{state_first}
use Rattle.load_gen.proofs.txs.Drawn.new.Goals as goal

pub invariant_of-result : goal.invariant_of-result
invariant_of-result c = record { from = omega arith; in_step = state_first c.args.load }
