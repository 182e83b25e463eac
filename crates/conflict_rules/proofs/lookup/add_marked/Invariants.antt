use Rattle.conflict_rules.proofs.Looked.{LookedUpTo}
use Rattle.conflict_rules.proofs.lookup.add_marked.Given as goal

-- the transactions of the words so far are found
abbrev pub invariant-loop-index : goal.invariant-loop-index
invariant-loop-index l = LookedUpTo l.words l.place l.fn.found l.index l.found
