use Rattle.std.proofs.Common.{arith}
use Rattle.std.proofs.lemmas.Grind.{common_steps}
use Rattle.tx_text.proofs.line.push_args.Goals as goal
use Rattle.rel_base.proofs.Bytes.{front_front}

pub returns-in_err-push_arg-clause-front : goal.returns-in_err-push_arg-clause-front
returns-in_err-push_arg-clause-front c = front_front c.args.out.now.items c.loop-value.out.items c.push_arg.new.out.items _ c.loop-value.invariant.0 c.in_err-push_arg.ensures.front

pub loop-value-preserved : goal.loop-value-preserved
loop-value-preserved c = grind (arith, common_steps)

pub returns-clause-ok : goal.returns-clause-ok
returns-clause-ok c = grind (arith, common_steps)

pub returns-clause-front : goal.returns-clause-front
returns-clause-front c = grind (arith, common_steps)

pub returns-clause-sound : goal.returns-clause-sound
returns-clause-sound c = grind (arith, common_steps)
