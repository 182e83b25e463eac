use Rattle.std.proofs.Common.{◌≡◌, ◌<◌, ◌∙◌, List, Some, ap, length, option_to_list, slice_get, subst, sym}
use Rattle.std.specs.FinMap.{get}
use Rattle.rel_base.specs.Among.{ReadFitsIn, rows_in}
use Rattle.rel_base.specs.Tables.{tables_at}
use Rattle.rel_base.specs.declared.access.Read.TheVariants.{Point}
use Rattle.row_sets.specs.Log.{history_of}
use Rattle.row_sets.proofs.PointRows.{point_got}
use Rattle.version_index.specs.View.{history_in}
use Rattle.version_index.specs.declared.index.TableIndex.{TableIndex}
use Rattle.version_index.proofs.Keeping.{is_view, read_below}
use Rattle.version_index.proofs.store.IndexVersionsVersions.row_at.Goals as goal

pub view_of-view-requires : goal.view_of-view-requires
view_of-view-requires c =
    let inside = c.self.inside in
    let point = Point c.args.table c.args.key.now in
    let asked = subst (λ store. ReadFitsIn store.0 point) (sym c.self.view_is) c.requires.fits in
    subst (λ (is : List TableIndex). c.args.table < length is) (sym c.as_slice-2.ensures.value)
    (read_below inside.tables inside.log.items inside.indexes.items inside.noted c.self.invariant point asked)

pub row_lent-requires : goal.row_lent-requires
row_lent-requires c =
    let inside = c.self.inside in
    let view = c.view_of-view.result in
    let index = ap (slice_get inside.indexes.items) c.view_of-view.ensures.table ∙ subst (λ is. slice_get is c.args.table ≡ Some view.index.now) c.as_slice-2.ensures.value c.view_of-view.ensures.index in
    is_view inside.tables inside.log.items inside.indexes.items inside.noted c.self.invariant view (c.view_of-view.ensures.entries ∙ c.as_slice.ensures.value) c.view_of-view.ensures.noted index

-- the row at the key is what the point gets
pub returns : goal.returns
returns c =
    let inside = c.self.inside in
    let point = Point c.args.table c.args.key.now in
    let asked = subst (λ store. ReadFitsIn store.0 point) (sym c.self.view_is) c.requires.fits in
    ap option_to_list (c.row_lent.ensures ∙ ap (λ table. get (tables_at c.args.height (history_in c.view_of-view.result)) (table, c.args.key.now)) c.view_of-view.ensures.table
    ∙ ap (λ es. get (tables_at c.args.height (history_of es)) (c.args.table, c.args.key.now)) (c.view_of-view.ensures.entries ∙ c.as_slice.ensures.value))
    ∙ point_got inside.tables c.args.table c.args.key.now c.args.height (history_of inside.log.items) c.self.invariant.fits asked
    ∙ ap (λ store. rows_in store.0 point (tables_at c.args.height store.1.0)) c.self.view_is
