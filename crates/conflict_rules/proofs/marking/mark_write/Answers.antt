use Rattle.std.proofs.Common.{rules}
use Rattle.conflict_rules.proofs.marking.mark_write.Goals as goal

pub returns-clause-own : goal.returns-clause-own
returns-clause-own c = search rules
