use Rattle.std.proofs.Common.{rules}
use Rattle.proc_check.proofs.named.check_fresh.Goals as goal

pub returns : goal.returns
returns g c = search rules
