use Rattle.tx_text.proofs.Args.{arg_shorter}
use Rattle.tx_text.proofs.line.read_args.Goals as goal

pub loop-rest-smaller : goal.loop-rest-smaller
loop-rest-smaller c = arg_shorter c.loop-rest.rest.now c.in_ok-value.value c.in_ok-value.after.now c.in_ok-value.ensures.value
