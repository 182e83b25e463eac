use Rattle.proc_syntax.proofs.Pointing.{sees_its_writes}
use Rattle.proc_syntax.proofs.laws.sees_its_writes.Goals as goal

pub returns : goal.returns
returns c = sees_its_writes
