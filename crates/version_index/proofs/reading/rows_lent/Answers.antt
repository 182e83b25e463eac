use Rattle.std.proofs.Common.{◌≡◌, ◌∙◌, IfOk, ap, option_to_list, subst, sym}
use Rattle.rel_base.specs.Access.{read_table}
use Rattle.rel_base.specs.Lent.{lent_rows, rows_of}
use Rattle.rel_base.specs.declared.access.Read.TheVariants.{Point}
use Rattle.version_index.proofs.Answered.{point_row}
use Rattle.version_index.proofs.reading.rows_lent.Goals as goal

-- the row at the key of a point is what it gets
pub returns-in-Point : goal.returns-in-Point
returns-in-Point c =
    let view = c.args.view.now in
    let look = c.args.look.now in
    let asked = c.requires.look in
    let is = c.in-Point.is ∙ ap (λ t. Point t c.in-Point.key) (sym (asked.table ∙ ap read_table c.in-Point.is)) in
    subst (λ seens. IfOk c.one_row.result (λ rows. lent_rows rows.items ≡ rows_of seens))
    (ap option_to_list c.row_lent.ensures ∙ point_row look.def.now view c.in-Point.key look.height look.read.now is asked) c.one_row.ensures
