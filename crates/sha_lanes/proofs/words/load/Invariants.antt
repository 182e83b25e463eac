use Rattle.std.proofs.Common.{◌≡◌, length}
use Rattle.sha_lanes.specs.Lanes.{HoldWords}
use Rattle.sha_lanes.proofs.words.load.Given as goal

abbrev pub invariant-load : goal.invariant-load
invariant-load l = (length l.words ≡ 64) × HoldWords l.bytes l.words l.place
