use Rattle.std.proofs.Common.{◌≡◌, ℕ, List, ◌++◌, ◌+◌, ◌*◌, ◌%◌, ◌^◌, ◌≤◌, length, take}
use Rattle.sha_lanes.specs.Absorbed.{Holds, IsAbsorbed}
use Rattle.sha_lanes.proofs.hasher.Hasher.update.Given as goal

abbrev pub invariant-groups : goal.invariant-groups
invariant-groups l =
    (l.self.total ≡ (l.fn.self.total + length l.input) % 2 ^ 64) × (l.start + 256 * l.index ≤ length l.input)
    × ((m : List ℕ) → Holds l.fn.self m → IsAbsorbed l.self.hash l.self.buffer (m ++ take (l.start + 256 * l.index) l.input) × ((length m + l.start) % 256 ≡ 0))
