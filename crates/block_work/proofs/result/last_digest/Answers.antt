use Rattle.std.proofs.Common.{◌∙◌}
use Rattle.node_model.specs.Fold.{no_digest}
use Rattle.block_work.proofs.Resulting.{digest_of_last, digest_of_none}
use Rattle.block_work.proofs.result.last_digest.Goals as goal

pub returns-in-None : goal.returns-in-None
returns-in-None c = digest_of_none no_digest c.args.blocks.now c.in-None.ensures

pub returns-in-Some : goal.returns-in-Some
returns-in-Some c = c.digest.ensures ∙ digest_of_last no_digest c.args.blocks.now c.in-Some.block.now c.in-Some.ensures
