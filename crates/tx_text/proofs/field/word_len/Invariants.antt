use Rattle.std.proofs.Common.{◌≡◌, ◌+◌, drop}
use Rattle.std.specs.List.{position_or_len}
use Rattle.tx_text.specs.Fields.{is_space}
use Rattle.tx_text.proofs.field.word_len.Given as goal

abbrev pub invariant-loop-at : goal.invariant-loop-at
invariant-loop-at l = position_or_len is_space l.bytes ≡ l.at + position_or_len is_space (drop l.at l.bytes)
