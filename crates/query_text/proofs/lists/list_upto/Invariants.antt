use Rattle.std.proofs.Common.{◌≡◌}
use Rattle.query_text.specs.Lists.{list_upto, upto_from}
use Rattle.query_text.proofs.lists.list_upto.Given as goal

abbrev pub invariant-loop-more : goal.invariant-loop-more
invariant-loop-more g l = upto_from l.separator g.T.Phrase.rule l.more l.items l.rest ≡ list_upto l.separator g.T.Phrase.rule l.fn.most l.fn.tokens

abbrev pub decreases-loop-more : goal.decreases-loop-more
decreases-loop-more g l = l.more
