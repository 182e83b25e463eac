use Rattle.std.proofs.Common.{rules}
use Rattle.conflict_rules.proofs.marking.mark_cells.Goals as goal

pub returns-clause-own : goal.returns-clause-own
returns-clause-own c = search rules
