use Rattle.std.proofs.Common.{◌≡◌}
use Rattle.sha2.specs.Sha256.{hash_after}
use Rattle.sha_lanes.specs.Lanes.{AreKeyed}
use Rattle.sha_lanes.proofs.blocks.take_blocks.Given as goal

abbrev pub invariant-taken : goal.invariant-taken
invariant-taken l = (l.hash ≡ hash_after l.fn.hash l.bytes l.lane) × AreKeyed l.bytes l.words
