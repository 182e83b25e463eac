use Rattle.std.proofs.Common.{◌≡◌, length}
use Rattle.proc_parse.specs.Lists.{list_of, list_from}
use Rattle.proc_parse.proofs.phrase.list.Given as goal

abbrev pub invariant-loop-items : goal.invariant-loop-items
invariant-loop-items g l = list_from g.T.Phrase.rule (length l.rest) l.items l.rest ≡ list_of g.T.Phrase.rule l.fn.tokens

abbrev pub decreases-loop-items : goal.decreases-loop-items
decreases-loop-items g l = length l.rest
