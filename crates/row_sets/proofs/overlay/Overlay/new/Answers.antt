use Rattle.std.proofs.Common.{ap, sym, subst, ◌∙◌}
use Rattle.row_sets.specs.Overlay.{AreFound, own_of}
use Rattle.row_sets.proofs.Owns.{found_none, own_of_none}
use Rattle.row_sets.proofs.overlay.Overlay.new.Goals as goal

pub returns-clause-own : goal.returns-clause-own
returns-clause-own c = ap own_of c.new.ensures ∙ own_of_none

pub returns-clause-found : goal.returns-clause-found
returns-clause-found c declared tables = subst (AreFound declared tables) (sym c.new.ensures) (found_none declared tables)
