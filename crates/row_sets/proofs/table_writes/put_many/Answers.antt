use Rattle.std.proofs.Common.{◌≡◌, ap, sym, subst, ◌∙◌, List, cond, Option, Some, None, is_some, not}
use Rattle.std.specs.BTreeMap.{BTreeMap, is_at}
use Rattle.std.specs.FinMap.{from_entries, get, insert}
use Rattle.std.specs.Map.{lookup}
use Rattle.std.specs.Option.{option_copied_mut}
use Rattle.rel_base.specs.Value.{key_cmp, key_cmp-total, key_cmp-exact}
use Rattle.rel_base.specs.declared.value.Value.{Value}
use Rattle.row_sets.specs.Overlay.{first_before}
use Rattle.row_sets.specs.declared.table_writes.OwnWrite.{OwnWrite}
use Rattle.row_sets.proofs.Entries.{get_is_lookup, one_set}
use Rattle.row_sets.proofs.table_writes.put_many.Goals as goal

-- a key that was written keeps its row before
pub returns-in-Some-clause-put : goal.returns-in-Some-clause-put
returns-in-Some-clause-put c =
    let es = c.args.many.now.entries in
    let key = c.args.key in
    let looked = sym c.get_mut.ensures.value ∙ ap option_copied_mut c.in-Some.is in
    let got : get (from_entries {R = key_cmp} es) key ≡ Some c.in-Some.own.now = get_is_lookup key_cmp key_cmp-total key_cmp-exact es key ∙ looked in
    let new : OwnWrite = record { before = c.in-Some.own.now.before; after = c.args.after } in
    one_set key_cmp key_cmp-total key_cmp-exact es (c.get_mut.follows.lender new).entries key new ((c.get_mut.follows.holds new).3 (ap is_some looked)).0
    ∙ ap (λ (found : Option OwnWrite). insert (from_entries es) key (record { before = first_before c.args.before found; after = c.args.after })) (sym got)

pub returns-in-Some-clause-first : goal.returns-in-Some-clause-first
returns-in-Some-clause-first c =
    let looked = sym c.get_mut.ensures.value ∙ ap option_copied_mut c.in-Some.is in
    ap (λ (found : Option OwnWrite). not (is_some found))
    (sym (get_is_lookup key_cmp key_cmp-total key_cmp-exact c.args.many.now.entries c.args.key ∙ looked))

-- a key that was not written
pub returns-clause-put : goal.returns-clause-put
returns-clause-put c =
    let es = c.args.many.now.entries in
    let key = c.args.key in
    let looked = sym c.get_mut.ensures.value ∙ ap option_copied_mut c.in_default.is in
    let got : get (from_entries {R = key_cmp} es) key ≡ None = get_is_lookup key_cmp key_cmp-total key_cmp-exact es key ∙ looked in
    let new : OwnWrite = record { before = c.args.before; after = c.args.after } in
    one_set key_cmp key_cmp-total key_cmp-exact es c.insert.new.self.entries key new
    (subst (λ (rows : BTreeMap (List Value) OwnWrite). (q : List Value) → lookup (is_at (key_cmp q)) c.insert.new.self.entries ≡ cond (is_at (key_cmp key) q) (Some new) (lookup (is_at (key_cmp q)) rows.entries)) c.get_mut.follows.holds-at-none c.in_ok-insert.ensures.updates.0)
    ∙ ap (λ (found : Option OwnWrite). insert (from_entries es) key (record { before = first_before c.args.before found; after = c.args.after })) (sym got)

pub returns-clause-first : goal.returns-clause-first
returns-clause-first c =
    let looked = sym c.get_mut.ensures.value ∙ ap option_copied_mut c.in_default.is in
    ap (λ (found : Option OwnWrite). not (is_some found))
    (sym (get_is_lookup key_cmp key_cmp-total key_cmp-exact c.args.many.now.entries c.args.key ∙ looked))
