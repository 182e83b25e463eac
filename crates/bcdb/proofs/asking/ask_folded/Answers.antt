use Rattle.bcdb.proofs.Asked.{asked_taken, held_among}
use Rattle.bcdb.proofs.asking.ask_folded.Goals as goal

pub ask_node-requires-clause-store : goal.ask_node-requires-clause-store
ask_node-requires-clause-store c = c.requires.folds.1.holds.fits

pub ask_node-requires-clause-among : goal.ask_node-requires-clause-among
ask_node-requires-clause-among c = held_among c.args.question.height c.requires.folds.0 c.args.folded.now c.requires.folds.1

pub returns : goal.returns
returns c = λ blocks folds. asked_taken c.args.folded.now blocks c.args.question.height c.args.question.text.now c.ask_node.result folds c.ask_node.ensures
