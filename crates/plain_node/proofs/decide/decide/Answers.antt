use Rattle.std.proofs.Common.{rules}
use Rattle.plain_node.proofs.decide.decide.Goals as goal

pub returns-in-Some-clause-work : goal.returns-in-Some-clause-work
returns-in-Some-clause-work g c = search rules
