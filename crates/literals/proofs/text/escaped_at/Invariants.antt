use Rattle.std.proofs.Common.{◌≡◌, ◌+◌, drop}
use Rattle.std.specs.List.{position_or_len}
use Rattle.literals.specs.Text.{is_escaped}
use Rattle.literals.proofs.text.escaped_at.Given as goal

abbrev pub invariant-loop-at : goal.invariant-loop-at
invariant-loop-at l = position_or_len is_escaped l.bytes ≡ l.at + position_or_len is_escaped (drop l.at l.bytes)
