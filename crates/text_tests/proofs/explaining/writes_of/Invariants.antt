use Rattle.std.proofs.Common.{All, length, ◌≡◌}
use Rattle.block_digest.specs.Codable.{IsFewWrite}
use Rattle.canon_code.specs.Writes.{HasWriteCode}
use Rattle.text_tests.proofs.explaining.writes_of.Given as goal

-- the writes of the files so far
abbrev pub invariant-loop-file : goal.invariant-loop-file
invariant-loop-file l = record {
  codes : All HasWriteCode l.writes;
  few : All IsFewWrite l.writes;
  all : length l.writes ≡ l.file-index;
}
