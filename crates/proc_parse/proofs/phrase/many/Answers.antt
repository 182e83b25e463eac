use Rattle.std.proofs.Common.{sym, ◌∙◌}
use Rattle.proc_parse.specs.Words.{is_word}
use Rattle.proc_parse.proofs.Lists.{many_next}
use Rattle.proc_parse.proofs.phrase.many.Goals as goal

pub loop-alloc-preserved : goal.loop-alloc-preserved
loop-alloc-preserved g c =
    many_next (is_word c.args.word) g.T.Phrase.rule g.met.T.Phrase.shortens _ _ _ _ _ (sym c.begins.ensures ∙ c.loop-alloc-test.true) c.in_ok-item.ensures c.in_ok-push.ensures.ok
    ∙ c.loop-alloc.invariant
