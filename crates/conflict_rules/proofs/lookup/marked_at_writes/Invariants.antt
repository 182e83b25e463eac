use Rattle.std.proofs.Common.{drop}
use Rattle.conflict_rules.proofs.Looked.{FoundSoFar}
use Rattle.conflict_rules.proofs.lookup.marked_at_writes.Given as goal
use Rattle.conflict_rules.specs.Marking.{is_write_found}

-- those so far, and those at what is left, are all
abbrev pub invariant-loop-write : goal.invariant-loop-write
invariant-loop-write l = FoundSoFar (λ number x. is_write_found l.marked l.words x number) l.writes l.found (drop l.write-index l.writes)
