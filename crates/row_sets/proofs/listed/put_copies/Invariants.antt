use Rattle.std.proofs.Common.{◌≡◌, drop}
use Rattle.row_sets.specs.Listed.{listed, put_each}
use Rattle.row_sets.proofs.listed.put_copies.Given as goal

-- putting those that are left gives what putting all gives
abbrev pub invariant-loop-write : goal.invariant-loop-write
invariant-loop-write l = put_each l.own (listed (drop l.write-index l.writes)) ≡ put_each l.initial.own (listed l.writes)
