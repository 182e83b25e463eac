use Rattle.std.proofs.Common.{◌∙◌, ap, length, subst, sym, ℕ}
use Rattle.std.specs.BTreeMap.{BTreeMap}
use Rattle.std.specs.declared.alloc.Global.{Global}
use Rattle.std.specs.declared.vec.Vec.{Vec}
use Rattle.rel_base.specs.declared.value.Value.{Value}
use Rattle.version_index.specs.Columns.{HavePlaces}
use Rattle.version_index.proofs.Listed.{listed_same, place_within}
use Rattle.version_index.proofs.touched.hold_number.Goals as goal

-- the place of a value has a list
pub hold_at-requires : goal.hold_at-requires
hold_at-requires c =
    let old = c.args.touched.now in
    place_within old.places.entries old.values.items old.lists.items c.requires.listed c.args.value.now c.in-Some.place (sym c.place.ensures ∙ c.in-Some.is)

pub returns-in-Some-clause-listed : goal.returns-in-Some-clause-listed
returns-in-Some-clause-listed c =
    let old = c.args.touched.now in
    let new = c.hold_at.new.touched in
    subst (λ (places : BTreeMap Value ℕ). HavePlaces places.entries new.values.items new.lists.items) (sym c.hold_at.ensures.places)
    (subst (λ (values : Vec Value Global). HavePlaces old.places.entries values.items new.lists.items) (sym c.hold_at.ensures.values)
    (listed_same old.places.entries old.values.items old.lists.items c.requires.listed new.lists.items (ap length c.hold_at.ensures.same)))
