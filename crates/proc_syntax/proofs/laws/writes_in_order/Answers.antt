use Rattle.proc_syntax.proofs.Runs.{writes_in_order}
use Rattle.proc_syntax.proofs.laws.writes_in_order.Goals as goal

pub returns : goal.returns
returns c = writes_in_order
