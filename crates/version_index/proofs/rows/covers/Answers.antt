use Rattle.std.proofs.Common.{◌∙◌, Option, ap, subst}
use Rattle.std.specs.Borrow.{Bor}
use Rattle.std.specs.Option.{option_copied}
use Rattle.rel_base.specs.Row.{value_at}
use Rattle.rel_base.specs.Value.{value_eq}
use Rattle.rel_base.specs.declared.value.Value.{Value}
use Rattle.rel_base.proofs.Columns.{span_column_below}
use Rattle.version_index.specs.Rows.{IsValueOf}
use Rattle.version_index.proofs.Sought.{covers_one}
use Rattle.version_index.proofs.rows.covers.Goals as goal

-- the column is one of the table's, and the row fits
pub has_value-requires : goal.has_value-requires
has_value-requires c =
    let fits = rw c.in-Span-Some.is-0 at c.requires.read_fits in
    rw c.as_slice.ensures (span_column_below c.args.look.now.def.now _ _ c.requires.row_fits fits.0)

-- the row has the value or not
pub returns-in-Span-Some : goal.returns-in-Span-Some
returns-in-Span-Some c =
    let look = c.args.look.now in
    let own = subst (λ (given : Option (Bor Value)). IsValueOf look.read.now (option_copied given)) c.in-Span-Some.is-1 c.requires.value in
    c.has_value.ensures ∙ ap (λ row. value_eq (value_at row c.in-Span-Some.column) c.in-Span-Some.one.now) c.as_slice.ensures ∙ covers_one look.def.now look.read.now c.in-Span-Some.one.now c.args.row.now c.in-Span-Some.is-0 own
