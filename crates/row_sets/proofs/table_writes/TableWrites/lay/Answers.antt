use Rattle.std.proofs.Common.{◌≡◌, ◌++◌, ap, sym, ◌∙◌}
use Rattle.std.specs.FinMap.{entries}
use Rattle.rel_base.specs.Value.{key_cmp, key_cmp-total, key_cmp-exact}
use Rattle.row_sets.specs.Overlay.{lay_keys}
use Rattle.row_sets.proofs.Endings.{on_ok_then}
use Rattle.row_sets.proofs.Entries.{entries_of_sorted}
use Rattle.row_sets.proofs.Few.{lay_both}
use Rattle.row_sets.proofs.table_writes.TableWrites.lay.Goals as goal

pub returns : goal.returns
returns c =
    let def = c.args.def.now in
    let read = c.args.read.now in
    let rows = c.args.rows.now.entries in
    let few = c.self.inside.few.items in
    let many = c.self.inside.many.entries in
    let same : entries c.args.self.now ≡ few ++ many = ap entries (sym c.self.view_is) ∙ entries_of_sorted key_cmp key_cmp-total key_cmp-exact (few ++ many) c.self.invariant in
    on_ok_then c.lay_each.result (λ laid. laid
    ∙ ap (λ rows. lay_keys def read rows many) c.in_ok-lay_few.ensures
    ∙ ap (λ own. lay_keys def read (lay_keys def read rows own) many) c.as_slice.ensures.value
    ∙ sym (lay_both def read rows few many)
    ∙ ap (lay_keys def read rows) (sym same)) c.lay_each.ensures
