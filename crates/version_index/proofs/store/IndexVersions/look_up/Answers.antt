use Rattle.std.proofs.Common.{◌≡◌, ◌∙◌, Some, ap, slice_get, subst, sym}
use Rattle.version_index.specs.View.{IsView}
use Rattle.version_index.proofs.Keeping.{is_view}
use Rattle.version_index.proofs.store.IndexVersions.look_up.Goals as goal

pub returns-clause-view : goal.returns-clause-view
returns-clause-view c =
    let inside = c.self.inside in
    let view = c.view_of.result in
    let index = ap (slice_get inside.indexes.items) c.view_of.ensures.table ∙ subst (λ is. slice_get is c.args.table ≡ Some view.index.now) c.as_slice-2.ensures.value c.view_of.ensures.index in
    subst IsView (sym c.new.ensures)
    (is_view inside.tables inside.log.items inside.indexes.items inside.noted c.self.invariant view (c.view_of.ensures.entries ∙ c.as_slice.ensures.value) c.view_of.ensures.noted index)
