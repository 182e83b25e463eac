use Rattle.std.proofs.Common.{rules}
use Rattle.node_model.proofs.result.ToldTwin.copy.Goals as goal

pub returns : goal.returns
returns c = search rules
