use Rattle.std.proofs.Common.{◌∙◌, ap, option_to_list, subst, sym}
use Rattle.std.specs.FinMap.{get}
use Rattle.rel_base.specs.Among.{ReadFitsIn, rows_in}
use Rattle.rel_base.specs.Tables.{tables_at}
use Rattle.rel_base.specs.declared.access.Read.TheVariants.{Point}
use Rattle.row_sets.specs.Log.{history_of}
use Rattle.row_sets.proofs.PointRows.{point_got}
use Rattle.version_store.proofs.store.PlainVersionsVersions.row_at.Goals as goal

-- the row at the key is what the point gets
pub returns : goal.returns
returns c =
    let inside = c.self.inside in
    let point = Point c.args.table c.args.key.now in
    let asked = subst (λ store. ReadFitsIn store.0 point) (sym c.self.view_is) c.requires.fits in
    ap option_to_list (c.row_of_key.ensures ∙ ap (λ es. get (tables_at c.args.height (history_of es)) (c.args.table, c.args.key.now)) c.as_slice.ensures.value)
    ∙ point_got inside.tables c.args.table c.args.key.now c.args.height (history_of inside.log.items) c.self.invariant asked
    ∙ ap (λ store. rows_in store.0 point (tables_at c.args.height store.1.0)) c.self.view_is
