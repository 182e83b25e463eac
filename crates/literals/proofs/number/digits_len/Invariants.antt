use Rattle.std.proofs.Common.{◌≡◌, ◌+◌, drop}
use Rattle.literals.specs.Number.{digits_len}
use Rattle.literals.proofs.number.digits_len.Given as goal

abbrev pub invariant-loop-at : goal.invariant-loop-at
invariant-loop-at l = digits_len l.bytes ≡ l.at + digits_len (drop l.at l.bytes)
