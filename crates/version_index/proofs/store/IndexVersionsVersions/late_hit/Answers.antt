use Rattle.std.proofs.Common.{arith}
use Rattle.std.proofs.lemmas.Grind.{elements}
use Rattle.std.proofs.Common.{◌≡◌, ◌∙◌, Some, ap, slice_get, subst, sym}
use Rattle.std.specs.Option.{option_map}
use Rattle.rel_base.specs.Access.{read_table}
use Rattle.rel_base.specs.Late.{least_hit}
use Rattle.rel_base.specs.Tables.{writes_between}
use Rattle.row_sets.specs.Versions.{hit_by, hit_of}
use Rattle.row_sets.specs.Log.{history_of}
use Rattle.version_index.specs.Log.{InOrder}
use Rattle.version_index.specs.View.{history_in}
use Rattle.version_index.proofs.Answered.{told_least}
use Rattle.version_index.proofs.Keeping.{is_asked, is_view}
use Rattle.version_index.proofs.store.IndexVersionsVersions.late_hit.Goals as goal

pub late_at-requires-clause-watch : goal.late_at-requires-clause-watch
late_at-requires-clause-watch c =
    let inside = c.self.inside in
    let view = c.view_of-view.result in
    let table = c.view_of-view.ensures.table ∙ c.table.ensures in
    let index = ap (slice_get inside.indexes.items) c.view_of-view.ensures.table ∙ subst (λ is. slice_get is c.table.result ≡ Some view.index.now) c.as_slice-3.ensures.value c.view_of-view.ensures.index in
    let declared = subst (λ defs. slice_get defs (read_table c.args.read.now) ≡ Some c.def_of-def.result.now) c.as_slice.ensures c.def_of-def.ensures.declared in
    is_asked inside.tables inside.log.items inside.indexes.items inside.noted c.self.invariant view (c.view_of-view.ensures.entries ∙ c.as_slice-2.ensures.value) c.view_of-view.ensures.noted index c.def_of-def.result.now
    c.args.read.now table declared c.def_of-def.ensures.fits

-- the first write that the read hits is the least
pub returns : goal.returns
returns c =
    let inside = c.self.inside in
    let read = c.args.read.now in
    let logged = c.view_of-view.ensures.entries ∙ c.as_slice-2.ensures.value in
    let declared = subst (λ defs. slice_get defs (read_table read) ≡ Some c.def_of-def.result.now) c.as_slice.ensures c.def_of-def.ensures.declared in
    told_least inside.tables (record { def = c.def_of-def.result; read = c.args.read; after = c.args.after; upto = c.args.upto }) (history_in c.view_of-view.result) (option_map hit_of c.late_at.result) declared
    (subst (λ es. InOrder (history_of es)) (sym logged) c.self.invariant.in_order) c.late_at.ensures
    ∙ ap (λ es. option_map (hit_by inside.tables read) (least_hit inside.tables read (writes_between c.args.after c.args.upto (history_of es)))) logged
    ∙ ap (λ store. option_map (hit_by store.0 read) (least_hit store.0 read (writes_between c.args.after c.args.upto store.1.0))) c.self.view_is

pub view_of-view-requires : goal.view_of-view-requires
view_of-view-requires c = grind (arith, elements)

pub late_at-requires-clause-view : goal.late_at-requires-clause-view
late_at-requires-clause-view c =
    let inside = c.self.inside in
    let view = c.view_of-view.result in
    let index = ap (slice_get inside.indexes.items) c.view_of-view.ensures.table ∙ subst (λ is. slice_get is c.table.result ≡ Some view.index.now) c.as_slice-3.ensures.value c.view_of-view.ensures.index in
    is_view inside.tables inside.log.items inside.indexes.items inside.noted c.self.invariant view (c.view_of-view.ensures.entries ∙ c.as_slice-2.ensures.value) c.view_of-view.ensures.noted index
