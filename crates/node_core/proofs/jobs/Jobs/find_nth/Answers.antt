use Rattle.std.proofs.Common.{ap, length, rules, sym, ◌%◌, ◌∙◌, ◌≡◌, List, ℕ}
use Rattle.std.specs.Prelude.{slice_get}
use Rattle.node_core.proofs.Quiet.{first_of}
use Rattle.node_core.proofs.Table.{eligible_is}
use Rattle.node_core.specs.Rows.{eligible_rows, shown_all}
use Rattle.node_model.specs.World.{eligible}
use Rattle.node_core.proofs.jobs.Jobs.find_nth.Goals as goal

pub returns-then-n-eq0-clause-found : goal.returns-then-n-eq0-clause-found
returns-then-n-eq0-clause-found c =
    let numbers : List ℕ = eligible c.args.height (shown_all c.args.self.now) in
    let found : c.find_first.result ≡ slice_get (eligible_rows 1 c.args.height c.self.inside.rows.items) 0 = search rules in
    let first : c.args.n ≡ 0 = search rules in
    found ∙ ap (λ ns. slice_get ns 0) (eligible_is c.args.height c.self.inside.rows.items) ∙ ap (λ rows. slice_get (eligible c.args.height (shown_all rows)) 0) c.self.view_is
    ∙ first_of numbers ∙ ap (λ n. slice_get numbers (n % length numbers)) (sym first)

pub returns-clause-found : goal.returns-clause-found
returns-clause-found c =
    let found : c.find_nth.result ≡ slice_get (eligible_rows 1 c.args.height c.self.inside.rows.items) (c.args.n % length (eligible_rows 1 c.args.height c.self.inside.rows.items)) = search rules in
    found ∙ ap (λ ns. slice_get ns (c.args.n % length ns)) (eligible_is c.args.height c.self.inside.rows.items ∙ ap (λ rows. eligible c.args.height (shown_all rows)) c.self.view_is)
