use Rattle.std.proofs.Common.{rules}
use Rattle.conflict_rules.proofs.marking.mark.Goals as goal

pub returns-clause-kept : goal.returns-clause-kept
returns-clause-kept c = search rules
