use Rattle.std.proofs.Common.{◌≡◌, ℕ, List, length}
use Rattle.sha_lanes.specs.Lanes.{HoldWords}
use Rattle.sha_lanes.proofs.words.extend.Given as goal

abbrev pub invariant-extend : goal.invariant-extend
invariant-extend l = (length l.words ≡ 64) × ((bytes : List ℕ) → HoldWords bytes l.fn.words 16 → HoldWords bytes l.words l.place)
