use Rattle.std.proofs.Common.{◌≡◌, ap, sym, ◌∙◌}
use Rattle.std.specs.FinMap.{get}
use Rattle.std.specs.Option.{option_copied, option_map}
use Rattle.row_sets.specs.Overlay.{own_of}
use Rattle.row_sets.specs.declared.table_writes.OwnWrite.{OwnWrite}
use Rattle.row_sets.proofs.Flat.{get_in}
use Rattle.row_sets.proofs.Owns.{own_in}
use Rattle.row_sets.proofs.by_table.WritesByTable.left_at.Goals as goal

-- the table was not written
pub returns-in-None : goal.returns-in-None
returns-in-None c =
    let key = c.args.key.now in
    let left : get (own_of c.args.self.now) (c.args.table, key) ≡ option_map (λ (own : OwnWrite). own.after) (get_in (option_copied c.get.result) key) =
    ap (λ writes. get (own_of writes) (c.args.table, key)) (sym c.self.view_is) ∙ own_in c.self.inside.tables.entries c.self.invariant.ordered c.args.table key
    ∙ ap (λ found. option_map (λ (own : OwnWrite). own.after) (get_in found key)) (sym c.get.ensures.value) in
    sym (left ∙ ap (λ found. option_map (λ (own : OwnWrite). own.after) (get_in (option_copied found) key)) c.in-None.is)

-- its own writes are asked
pub returns-in-Some : goal.returns-in-Some
returns-in-Some c =
    let key = c.args.key.now in
    let left : get (own_of c.args.self.now) (c.args.table, key) ≡ option_map (λ (own : OwnWrite). own.after) (get_in (option_copied c.get.result) key) =
    ap (λ writes. get (own_of writes) (c.args.table, key)) (sym c.self.view_is) ∙ own_in c.self.inside.tables.entries c.self.invariant.ordered c.args.table key
    ∙ ap (λ found. option_map (λ (own : OwnWrite). own.after) (get_in found key)) (sym c.get.ensures.value) in
    c.left_at.ensures ∙ sym (left ∙ ap (λ found. option_map (λ (own : OwnWrite). own.after) (get_in (option_copied found) key)) c.in-Some.is)
