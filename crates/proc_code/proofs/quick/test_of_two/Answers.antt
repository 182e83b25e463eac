use Rattle.std.proofs.Common.{rules}
use Rattle.proc_code.proofs.quick.test_of_two.Goals as goal

pub returns : goal.returns
returns g c = search rules
