use Rattle.std.proofs.Common.{◌≡◌, ◌∙◌, ℕ, None, Some, ap, is_some, subst, sym}
use Rattle.std.specs.BTreeMap.{BTreeMap, get_by}
use Rattle.std.specs.BTreeSet.{BTreeSet}
use Rattle.std.specs.Option.{option_copied_mut}
use Rattle.rel_base.specs.Value.{value_cmp}
use Rattle.rel_base.specs.declared.value.Value.{Value}
use Rattle.row_sets.proofs.Endings.{on_ok_then}
use Rattle.version_index.proofs.AtValues.{SetAt, slots_held, slots_kept, slots_new}
use Rattle.version_index.proofs.living.hold_slot.Goals as goal

pub returns-in-Some-clause-held : goal.returns-in-Some-clause-held
returns-in-Some-clause-held c =
    let there : get_by (value_cmp c.args.value.now) c.args.living.now ≡ Some c.in-Some.slots.now = sym c.get_mut.ensures.value ∙ ap option_copied_mut c.in-Some.is in
    on_ok_then c.put_slot.result (slots_held c.args.living.now.entries (c.get_mut.follows.lender c.put_slot.new.slots).entries c.args.value.now c.put_slot.new.slots c.args.slot
    ((c.get_mut.follows.holds c.put_slot.new.slots).3 (ap is_some there)).0) c.put_slot.ensures.put

pub returns-in-Some-clause-kept : goal.returns-in-Some-clause-kept
returns-in-Some-clause-kept c =
    let there : get_by (value_cmp c.args.value.now) c.args.living.now ≡ Some c.in-Some.slots.now = sym c.get_mut.ensures.value ∙ ap option_copied_mut c.in-Some.is in
    slots_kept c.args.living.now.entries (c.get_mut.follows.lender c.put_slot.new.slots).entries c.args.value.now c.in-Some.slots.now c.put_slot.new.slots there
    ((c.get_mut.follows.holds c.put_slot.new.slots).3 (ap is_some there)).0 c.put_slot.ensures.kept

-- a new value has the one slot
pub returns-clause-held : goal.returns-clause-held
returns-clause-held c =
    slots_held c.args.living.now.entries c.insert.new.self.entries c.args.value.now c.in_ok-slots.slots c.args.slot
    (subst (λ (living : BTreeMap Value (BTreeSet ℕ)). SetAt living.entries c.insert.new.self.entries c.args.value.now (Some c.in_ok-slots.slots)) c.get_mut.follows.holds-at-none
    (subst (λ value. SetAt c.get_mut.follows.lender-at-none.entries c.insert.new.self.entries value (Some c.in_ok-slots.slots)) c.in_ok-value.ensures c.in_ok-insert.ensures.updates.0)) c.in_ok-slots.ensures

pub returns-clause-kept : goal.returns-clause-kept
returns-clause-kept c =
    let there : get_by (value_cmp c.args.value.now) c.args.living.now ≡ None = sym c.get_mut.ensures.value ∙ ap option_copied_mut c.in_default.is in
    slots_new c.args.living.now.entries c.insert.new.self.entries c.args.value.now c.in_ok-slots.slots there
    (subst (λ (living : BTreeMap Value (BTreeSet ℕ)). SetAt living.entries c.insert.new.self.entries c.args.value.now (Some c.in_ok-slots.slots)) c.get_mut.follows.holds-at-none
    (subst (λ value. SetAt c.get_mut.follows.lender-at-none.entries c.insert.new.self.entries value (Some c.in_ok-slots.slots)) c.in_ok-value.ensures c.in_ok-insert.ensures.updates.0))
