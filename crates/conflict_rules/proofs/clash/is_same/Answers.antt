use Rattle.std.proofs.Common.{rules}
use Rattle.conflict_rules.proofs.clash.is_same.Goals as goal

pub returns : goal.returns
returns c = search rules
