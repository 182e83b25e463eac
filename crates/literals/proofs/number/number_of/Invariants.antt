use Rattle.std.proofs.Common.{◌≡◌, ◌<◌, ◌^◌, drop}
use Rattle.literals.specs.Number.{number_after}
use Rattle.literals.proofs.number.number_of.Given as goal

abbrev pub invariant-loop-digit : goal.invariant-loop-digit
invariant-loop-digit l = (l.number < 2 ^ 64) × (number_after l.number (drop l.digit-index l.digits) ≡ number_after 0 l.digits)
