use Rattle.std.proofs.Common.{◌∙◌, ap, sym, cond, Some}
use Rattle.std.specs.Ordering.{eq_by_cmp}
use Rattle.rel_base.specs.Value.{key_cmp}
use Rattle.row_sets.proofs.Endings.{on_ok_then}
use Rattle.version_store.specs.Rows.{row_at}
use Rattle.version_store.proofs.Found.{row_put}
use Rattle.version_store.proofs.rows.set_row.Goals as goal

-- the row of the write takes the place of the old one
pub returns-then-covers : goal.returns-then-covers
returns-then-covers c =
    let entry = c.args.entry.now in
    let key = entry.placed.write.key in
    on_ok_then c.put_in.result
    (λ sets q.
    row_put c.args.def.now c.args.read.now (eq_by_cmp key_cmp key q) (row_at c.args.rows.now.entries q) (row_at c.take_out.new.rows.entries q) (row_at c.put_in.new.rows.entries q) entry.block entry.placed.pos
    entry.placed.write.after c.in-Some.row c.in-Some.is (sym c.covers.ensures ∙ c.if-covers.true) (c.take_out.ensures q)
    (sets q ∙ ap (λ place. cond (eq_by_cmp key_cmp key q) (Some (record { row = c.in-Some.row; place = place })) (row_at c.take_out.new.rows.entries q)) c.place_at.ensures))
    c.put_in.ensures
