use Rattle.std.proofs.Common.{refl}
use Rattle.row_sets.proofs.Cells.{value_at_get}
use Rattle.row_sets.proofs.cover.value_or_zero.Goals as goal

pub returns-in-None : goal.returns-in-None
returns-in-None c = rw (value_at_get, ← c.get.ensures, c.in-None.is) refl

pub returns-in_ok-copy-in-Some : goal.returns-in_ok-copy-in-Some
returns-in_ok-copy-in-Some c = rw (value_at_get, ← c.get.ensures, c.in-Some.is, c.in_ok-copy-in-Some.ensures) refl
