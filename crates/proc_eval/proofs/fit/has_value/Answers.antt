use Rattle.proc_eval.proofs.Keyed.{value_at_get}
use Rattle.proc_eval.proofs.fit.has_value.Goals as goal

pub returns-in-None : goal.returns-in-None
returns-in-None c = rw (value_at_get, ← c.get.ensures, c.in-None.is) c.eq.ensures

pub returns-in-Some : goal.returns-in-Some
returns-in-Some c = rw (value_at_get, ← c.get.ensures, c.in-Some.is) c.eq-in-Some.ensures
