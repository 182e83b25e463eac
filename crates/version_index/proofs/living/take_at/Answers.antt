use Rattle.std.proofs.Common.{◌≡◌, ◌∙◌, ℕ, None, Some, ap, is_some, sym}
use Rattle.std.specs.BTreeMap.{BTreeMap, get_by}
use Rattle.std.specs.BTreeSet.{BTreeSet}
use Rattle.std.specs.Option.{option_copied_mut}
use Rattle.rel_base.specs.Value.{value_cmp}
use Rattle.rel_base.specs.declared.value.Value.{Value}
use Rattle.version_index.specs.Columns.{has_slot}
use Rattle.version_index.proofs.AtValues.{slots_absent, slots_taken}
use Rattle.version_index.proofs.living.take_at.Goals as goal

pub returns-in-None-clause-taken : goal.returns-in-None-clause-taken
returns-in-None-clause-taken c v s =
    let there : get_by (value_cmp c.args.value.now) c.args.living.now ≡ None = sym c.get_mut.ensures.value ∙ ap option_copied_mut c.in-None.is in
    ap (λ (living : BTreeMap Value (BTreeSet ℕ)). has_slot living.entries v s) c.get_mut.follows.holds-at-none ∙ slots_absent c.args.living.now.entries c.args.value.now c.args.slot there v s

-- the slots of the value are those of which the one was taken
pub returns-in-Some-clause-taken : goal.returns-in-Some-clause-taken
returns-in-Some-clause-taken c =
    let there : get_by (value_cmp c.args.value.now) c.args.living.now ≡ Some c.in-Some.slots.now = sym c.get_mut.ensures.value ∙ ap option_copied_mut c.in-Some.is in
    slots_taken c.args.living.now.entries (c.get_mut.follows.lender c.take_out.new.slots).entries c.args.value.now c.in-Some.slots.now c.take_out.new.slots c.args.slot there
    ((c.get_mut.follows.holds c.take_out.new.slots).3 (ap is_some there)).0 c.take_out.ensures.taken
