use Rattle.std.proofs.Common.{◌≡◌, ap, sym, ◌∙◌}
use Rattle.std.specs.FinMap.{get}
use Rattle.std.specs.FinMap.Entries.{find}
use Rattle.std.specs.Option.{option_copied, option_map}
use Rattle.rel_base.specs.Tables.{ref_cmp}
use Rattle.row_sets.specs.Listed.{done_by, listed}
use Rattle.row_sets.specs.Overlay.{own_of}
use Rattle.row_sets.specs.declared.table_writes.OwnWrite.{OwnWrite}
use Rattle.row_sets.proofs.Listing.{Ref, left_listed}
use Rattle.row_sets.proofs.listed.ListedWrites.left_at.Goals as goal

-- the key was not written
pub returns-in-None : goal.returns-in-None
returns-in-None c =
    let writes = c.self.inside.writes.items in
    let ref : Ref = (c.args.table, c.args.key.now) in
    let left : get (own_of c.args.self.now) ref ≡ option_map (λ (own : OwnWrite). own.after) (find ref_cmp ref (listed writes)) = ap (λ own. get (own_of own) ref) (sym c.self.view_is) ∙ left_listed writes ref in
    let found = ap (λ ws. find ref_cmp ref (listed ws)) (sym c.as_slice.ensures.value) ∙ sym c.find_listed.ensures ∙ ap (λ o. option_map done_by (option_copied o)) c.in-None.is in
    sym (left ∙ ap (option_map (λ (own : OwnWrite). own.after)) found)

-- it was
pub returns-in-Some : goal.returns-in-Some
returns-in-Some c =
    let writes = c.self.inside.writes.items in
    let ref : Ref = (c.args.table, c.args.key.now) in
    let left : get (own_of c.args.self.now) ref ≡ option_map (λ (own : OwnWrite). own.after) (find ref_cmp ref (listed writes)) = ap (λ own. get (own_of own) ref) (sym c.self.view_is) ∙ left_listed writes ref in
    let found = ap (λ ws. find ref_cmp ref (listed ws)) (sym c.as_slice.ensures.value) ∙ sym c.find_listed.ensures ∙ ap (λ o. option_map done_by (option_copied o)) c.in-Some.is in
    sym (left ∙ ap (option_map (λ (own : OwnWrite). own.after)) found)
