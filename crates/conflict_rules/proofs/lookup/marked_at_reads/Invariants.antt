use Rattle.std.proofs.Common.{drop}
use Rattle.conflict_rules.proofs.Looked.{FoundSoFar}
use Rattle.conflict_rules.proofs.lookup.marked_at_reads.Given as goal
use Rattle.conflict_rules.specs.Marking.{is_read_found}

-- those so far, and those at what is left, are all
abbrev pub invariant-loop-made : goal.invariant-loop-made
invariant-loop-made l = FoundSoFar (λ number x. is_read_found l.marked l.words x.read number) l.reads l.found (drop l.made-index l.reads)
