use Rattle.std.proofs.Common.{arith}
use Rattle.std.proofs.lemmas.Grind.{common_steps}
use Rattle.std.proofs.Common.{sym, ◌∙◌}
use Rattle.proc_parse.proofs.Lists.{list_next, list_last}
use Rattle.proc_parse.proofs.phrase.list.Goals as goal

pub loop-items-preserved : goal.loop-items-preserved
loop-items-preserved g c =
    list_next g.T.Phrase.rule g.met.T.Phrase.shortens _ _ _ _ _ _ c.in_ok-item.ensures c.in-Some.ensures c.in_ok-push.ensures.ok ∙ c.loop-items.invariant

pub returns-in-None : goal.returns-in-None
returns-in-None g c =
    sym c.loop-items.invariant ∙ list_last g.T.Phrase.rule g.met.T.Phrase.shortens _ _ _ _ _ c.in_ok-item.ensures c.in-None.ensures c.in_ok-push.ensures.ok

pub returns-in_err-item : goal.returns-in_err-item
returns-in_err-item c = grind (arith, common_steps)
