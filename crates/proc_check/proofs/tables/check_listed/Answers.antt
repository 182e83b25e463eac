use Rattle.std.proofs.Common.{rules}
use Rattle.proc_check.proofs.tables.check_listed.Goals as goal

pub returns-in_err-refuse : goal.returns-in_err-refuse
returns-in_err-refuse c = search rules
