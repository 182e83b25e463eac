use Rattle.std.proofs.Common.{inr}
use Rattle.bcdb.proofs.top.deliver.Goals as goal

pub returns-in-Err-clause-writes : goal.returns-in-Err-clause-writes
returns-in-Err-clause-writes g c = c.in-Err.ensures.err

pub returns-in-Err-clause-write : goal.returns-in-Err-clause-write
returns-in-Err-clause-write g c = λ failed. inr c.in-Err.ensures.cause
