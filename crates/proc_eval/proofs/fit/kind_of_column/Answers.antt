use Rattle.std.proofs.Common.{refl}
use Rattle.proc_eval.proofs.Columns.{kind_at_get}
use Rattle.proc_eval.proofs.fit.kind_of_column.Goals as goal

pub returns-in-None : goal.returns-in-None
returns-in-None c = rw (kind_at_get, ← c.get.ensures, c.in-None.is) refl

pub returns-in-Some : goal.returns-in-Some
returns-in-Some c = rw (kind_at_get, ← c.get.ensures, c.in-Some.is) refl
