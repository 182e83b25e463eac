use Rattle.std.proofs.Common.{ap, subst, sym}
use Rattle.block_work.proofs.Answering.{if_ok_then}
use Rattle.node_model.specs.Fold.{fold}
use Rattle.node_model.specs.declared.result.NodeResult.{NodeResult}
use Rattle.plain_node.proofs.node.PlainNode.close.Goals as goal
use Rattle.serial_laws.proofs.Results.{results_run}
use Rattle.serial_laws.specs.InOrder.{EachInOrder}

pub returns-clause-replays : goal.returns-clause-replays
returns-clause-replays g c =
    let app = c.args.self.chain.app.value.app in
    if_ok_then c.close.result _ _ c.close.ensures.report (λ made is. λ blocks numbered holds.
    subst (EachInOrder app blocks) (sym (ap (λ (result : NodeResult). result.blocks) (is (fold app blocks) holds.chain))) (results_run app blocks numbered))
