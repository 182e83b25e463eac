use Rattle.std.proofs.Common.{drop, fold, ◌≡◌}
use Rattle.version_index.proofs.key_hash.mix_bytes.Given as goal
use Rattle.version_index.specs.Hashing.{mix}

-- what is left makes the whole
abbrev pub invariant-loop-byte : goal.invariant-loop-byte
invariant-loop-byte l = fold mix l.mixed (drop l.byte-index l.bytes) ≡ fold mix l.hash l.bytes
