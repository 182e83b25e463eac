use Rattle.cluster_run.proofs.Arriving.{told_fed}
use Rattle.cluster_run.proofs.Ends.{closed_node, journal_seen}
use Rattle.cluster_run.proofs.node.close_node.Goals as goal

pub returns-clause-node : goal.returns-clause-node
returns-clause-node g c =
    closed_node c.args.pass c.requires.processed.processor c.requires.processed.stands.hand c.requires.processed.rests c.close.result c.close.ensures.node c.close-2.result c.requires.numbered c.close-2.ensures.closed

pub returns-clause-fed : goal.returns-clause-fed
returns-clause-fed g c =
    told_fed c.args.pass c.close.ensures.own c.requires.processed.stands.hand.true_to.brought c.close.ensures.others c.close-2.result (journal_seen c.args.pass c.close.result c.close.ensures.node c.close-2.result c.close-2.ensures.closed)
