use Rattle.std.proofs.Common.{◌∙◌}
use Rattle.literals.proofs.Numbers.{too_large}
use Rattle.literals.proofs.number.number_of.Goals as goal

pub returns-in_err-number : goal.returns-in_err-number
returns-in_err-number c = c.from_residual.ensures ∙ too_large c.args.digits.now c.loop-digit.digit-index c.loop-digit.number c.loop-digit-test.true c.loop-digit.invariant.1 (c.in_err-number.ensures {u = tt})
