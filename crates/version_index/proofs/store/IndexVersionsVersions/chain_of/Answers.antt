use Rattle.std.proofs.Common.{◌≡◌, ◌∙◌, Some, ap, slice_get, subst, arith}
use Rattle.std.proofs.lemmas.Grind.{common_steps}
use Rattle.version_index.proofs.Keeping.{is_view}
use Rattle.version_index.proofs.store.IndexVersionsVersions.chain_of.Goals as goal

pub view_of-view-requires : goal.view_of-view-requires
view_of-view-requires c = grind (arith, common_steps)

pub chain_back-requires-clause-view : goal.chain_back-requires-clause-view
chain_back-requires-clause-view c =
    let inside = c.self.inside in
    let view = c.view_of-view.result in
    let index = ap (slice_get inside.indexes.items) c.view_of-view.ensures.table ∙ subst (λ is. slice_get is c.args.table ≡ Some view.index.now) c.as_slice-2.ensures.value c.view_of-view.ensures.index in
    is_view inside.tables inside.log.items inside.indexes.items inside.noted c.self.invariant view (c.view_of-view.ensures.entries ∙ c.as_slice.ensures.value) c.view_of-view.ensures.noted index
