use Rattle.std.proofs.Common.{List, ◌-◌, ◌<◌, ◌≡◌, ◌≤◌, ℕ}
use Rattle.rw_graph.proofs.Counted.{upto}
use Rattle.rw_graph.proofs.bits.Bits.count.Given as goal
use Rattle.rw_graph.specs.Held.{holds}
use Rattle.rw_graph.specs.Sets.{AreAmong}
use Rattle.std.specs.List.{count_by}
use Rattle.std.specs.Prelude.{AllPairs}

-- those so far are counted
abbrev pub invariant-loop-pos : goal.invariant-loop-pos
invariant-loop-pos l =
    ((list : List ℕ) → AllPairs (λ p q. p < q) list → AreAmong list (holds l.self) → l.count ≡ count_by (upto (holds l.self) l.last) list)
    × (l.count ≤ l.last)
    × (l.last ≤ 1024)

abbrev pub decreases-loop-pos : goal.decreases-loop-pos
decreases-loop-pos l = 1024 - l.last
