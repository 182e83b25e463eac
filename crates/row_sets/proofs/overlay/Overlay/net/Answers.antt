use Rattle.std.proofs.Common.{ap, sym, ◌∙◌}
use Rattle.std.specs.FinMap.{entries}
use Rattle.row_sets.specs.Forms.{written_in}
use Rattle.row_sets.specs.Overlay.{net_writes}
use Rattle.row_sets.proofs.Owns.{net_of_found}
use Rattle.row_sets.proofs.overlay.Overlay.net.Goals as goal

pub returns-in-Few-clause-net : goal.returns-in-Few-clause-net
returns-in-Few-clause-net c = c.net.ensures ∙ ap (λ own. net_writes (entries own)) (ap written_in (sym c.in-Few.is) ∙ c.self.view_is)

pub returns-in-Few-clause-found : goal.returns-in-Few-clause-found
returns-in-Few-clause-found c declared tables found = returns-in-Few-clause-net c ∙ net_of_found declared tables c.args.self found

pub returns-in-Many-clause-net : goal.returns-in-Many-clause-net
returns-in-Many-clause-net c = c.net-in-Many.ensures ∙ ap (λ own. net_writes (entries own)) (ap written_in (sym c.in-Many.is) ∙ c.self.view_is)

pub returns-in-Many-clause-found : goal.returns-in-Many-clause-found
returns-in-Many-clause-found c declared tables found = returns-in-Many-clause-net c ∙ net_of_found declared tables c.args.self found
