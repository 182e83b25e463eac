use Rattle.std.proofs.Common.{◌≡◌, ◌<◌, ◌≤◌, ℕ, length, slice_index}
use Rattle.sha2.specs.Sha256.{add32, round_constants}
use Rattle.sha_lanes.specs.Lanes.{lane_at}
use Rattle.sha_lanes.proofs.words.add_numbers.Given as goal

-- those before have their numbers, and the others are as they were
abbrev pub invariant-numbers : goal.invariant-numbers
invariant-numbers l = (length l.words ≡ 64)
    × ((lane other : ℕ) → lane < 4 → other < l.place → lane_at l.words other lane ≡ add32 (lane_at l.fn.words other lane) (slice_index round_constants other))
    × ((lane other : ℕ) → l.place ≤ other → lane_at l.words other lane ≡ lane_at l.fn.words other lane)
