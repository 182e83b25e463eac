use Rattle.std.proofs.Common.{◌≡◌, ◌*◌, ℕ, List}
use Rattle.sha2.specs.Sha256.{rounds, schedule}
use Rattle.sha_lanes.specs.Lanes.{IsKeyed}
use Rattle.sha_lanes.proofs.rounds.compress.Given as goal

abbrev pub invariant-rounds : goal.invariant-rounds
invariant-rounds l = (l.hash ≡ l.fn.hash) × ((block : List ℕ) → IsKeyed block l.words l.lane → l.v ≡ rounds l.fn.hash (schedule block 48) (16 * l.turn))
