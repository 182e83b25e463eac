use Rattle.std.proofs.Common.{◌≡◌, drop}
use Rattle.block_digest.specs.Readings.{rise_behind}
use Rattle.block_digest.proofs.read_block.rise_behind.Given as goal

-- what is left answers for the whole
abbrev pub invariant-loop-next : goal.invariant-loop-next
invariant-loop-next l = rise_behind l.last (drop l.next-index l.writes) ≡ rise_behind l.initial.last l.writes
