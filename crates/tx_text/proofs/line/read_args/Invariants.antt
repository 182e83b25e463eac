use Rattle.std.proofs.Common.{◌≡◌, length}
use Rattle.tx_text.specs.Lines.{args_of}
use Rattle.tx_text.proofs.Args.{with_args}
use Rattle.tx_text.proofs.line.read_args.Given as goal

abbrev pub invariant-loop-rest : goal.invariant-loop-rest
invariant-loop-rest l = with_args l.args (args_of l.rest) ≡ args_of l.bytes

abbrev pub decreases-loop-rest : goal.decreases-loop-rest
decreases-loop-rest l = length l.rest
