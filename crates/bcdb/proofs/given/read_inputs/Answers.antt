use Rattle.std.proofs.Common.{IfSome, Option, rules, subst, sym, ◌≡◌}
use Rattle.std.specs.Prelude.{Ok}
use Rattle.bcdb.proofs.Giving.{after_app}
use Rattle.bcdb.proofs.given.read_inputs.Goals as goal
use Rattle.bcdb.specs.Accepted.{accepted}
use Rattle.bcdb.specs.Plan.{AllowsPlan, plan_from_arrivals}
use Rattle.edge_traits.specs.Shelf.{Files}

pub read_from_arrivals-requires : goal.read_from_arrivals-requires
read_from_arrivals-requires g c =
    let told = g.S.Shelf.told c.args.shelf.now in
    let asked = c.args.asked.now in
    let new = g.S.Shelf.may_read c.fetch_application.new.shelf in
    let is : IfSome told (λ files. accepted (files asked.app) ≡ Ok c.in-Ok-Ok.app.app) = search rules in
    record {
      allowed = subst (λ (t : Option Files). AllowsPlan (plan_from_arrivals asked) t new) (sym c.fetch_application.ensures.same)
          (after_app told (g.S.Shelf.may_read c.args.shelf.now) new asked c.in-Ok-Ok.app.app c.requires.allowed c.fetch_application.ensures.allowed is);
    }
