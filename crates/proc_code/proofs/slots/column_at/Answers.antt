use Rattle.std.proofs.Common.{rules}
use Rattle.proc_code.proofs.slots.column_at.Goals as goal

pub returns : goal.returns
returns c = search rules
