use Rattle.std.proofs.Common.{◌≡◌, ◌≤◌, ◌++◌, drop, length, take}
use Rattle.row_sets.specs.Listed.{listed}
use Rattle.row_sets.specs.Overlay.{net_writes}
use Rattle.row_sets.proofs.listed.keep_net.Given as goal

-- those from a place on are net
abbrev pub invariant-loop-place : goal.invariant-loop-place
invariant-loop-place l = (l.writes.items ≡ take l.place l.fn.writes.items ++ net_writes (listed (drop l.place l.fn.writes.items))) × (l.place ≤ length l.fn.writes.items)
