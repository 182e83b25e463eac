use Rattle.std.specs.Prelude.{unwrap_or}
use Rattle.std.proofs.Common.{◌≡◌, ◌++◌, ap, sym, subst, ◌∙◌, Option, Some, None, T}
use Rattle.std.specs.FinMap.{get, get-from_entries}
use Rattle.std.specs.FinMap.Entries.{find, is_sorted}
use Rattle.std.specs.Option.{option_copied, option_map}
use Rattle.rel_base.specs.Value.{key_cmp, key_cmp-total}
use Rattle.row_sets.specs.declared.table_writes.OwnWrite.{OwnWrite}
use Rattle.row_sets.proofs.Few.{found_first, found_later, sorted_first}
use Rattle.row_sets.proofs.table_writes.TableWrites.look.Goals as goal

pub find_in_order-requires : goal.find_in_order-requires
find_in_order-requires c =
    let few = c.self.inside.few.items in
    let many = c.self.inside.many.entries in
    subst (λ own. T (is_sorted key_cmp own)) (sym c.as_slice.ensures.value) (sorted_first few many c.self.invariant)

-- the map is asked
pub returns-in-None : goal.returns-in-None
returns-in-None c =
    let key = c.args.key.now in
    let few = c.self.inside.few.items in
    let many = c.self.inside.many.entries in
    let missed : find key_cmp key few ≡ None = ap (find key_cmp key) (sym c.as_slice.ensures.value) ∙ sym c.find_in_order.ensures ∙ ap option_copied c.in-None.is in
    let got : get c.args.self.now key ≡ find key_cmp key many = ap (λ m. get m key) (sym c.self.view_is) ∙ get-from_entries key_cmp-total (few ++ many) key ∙ found_later key few many missed in
    c.look_many.ensures ∙ sym (ap (λ (found : Option OwnWrite). unwrap_or (option_map (λ own. own.after) found) (option_copied c.args.base)) got)

-- it stands in the vector
pub returns-in-Some : goal.returns-in-Some
returns-in-Some c =
    let key = c.args.key.now in
    let few = c.self.inside.few.items in
    let many = c.self.inside.many.entries in
    let found : find key_cmp key few ≡ Some c.in-Some.own.now = ap (find key_cmp key) (sym c.as_slice.ensures.value) ∙ sym c.find_in_order.ensures ∙ ap option_copied c.in-Some.is in
    let got : get c.args.self.now key ≡ Some c.in-Some.own.now =
    ap (λ m. get m key) (sym c.self.view_is) ∙ get-from_entries key_cmp-total (few ++ many) key ∙ found_first key few many c.in-Some.own.now found in
    c.row_of.ensures ∙ sym (ap (λ (found : Option OwnWrite). unwrap_or (option_map (λ own. own.after) found) (option_copied c.args.base)) got)
