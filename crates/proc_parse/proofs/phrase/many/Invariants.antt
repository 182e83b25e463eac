use Rattle.std.proofs.Common.{◌≡◌, length}
use Rattle.proc_parse.specs.Words.{is_word}
use Rattle.proc_parse.specs.Lists.{many_of, many_from}
use Rattle.proc_parse.proofs.phrase.many.Given as goal

abbrev pub invariant-loop-alloc : goal.invariant-loop-alloc
invariant-loop-alloc g l = many_from (is_word l.word) g.T.Phrase.rule (length l.rest) l.items l.rest ≡ many_of (is_word l.word) g.T.Phrase.rule l.fn.tokens

abbrev pub decreases-loop-alloc : goal.decreases-loop-alloc
decreases-loop-alloc g l = length l.rest
