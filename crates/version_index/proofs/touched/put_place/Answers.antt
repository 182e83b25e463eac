use Rattle.std.proofs.Common.{◌≡◌, Option, Some, cond, subst, ℕ}
use Rattle.rel_base.specs.Value.{value_eq}
use Rattle.rel_base.specs.declared.value.Value.{Value}
use Rattle.version_index.specs.Columns.{place_in}
use Rattle.version_index.proofs.AtValues.{told_at}
use Rattle.version_index.proofs.touched.put_place.Goals as goal

pub returns-clause-put : goal.returns-clause-put
returns-clause-put c =
    let old = c.args.places.now.entries in
    let new = c.insert.new.self.entries in
    subst (λ value. (v : Value) → place_in new v ≡ cond (value_eq v value) (Some c.args.place) (place_in old v)) c.in_ok-value.ensures
    (told_at (λ (found : Option ℕ). found) old new c.in_ok-value.value (Some c.args.place) c.in_ok-insert.ensures.updates.0)
