use Rattle.std.proofs.Common.{◌≡◌, ◌∙◌, IfOk, Some, ap, slice_get, subst, sym}
use Rattle.rel_base.specs.Access.{read_table}
use Rattle.rel_base.specs.Among.{rows_in}
use Rattle.rel_base.specs.Lent.{lent_rows, rows_of}
use Rattle.rel_base.specs.Tables.{rows, tables_at}
use Rattle.row_sets.specs.Log.{history_of}
use Rattle.version_index.proofs.Answered.{rows_declared}
use Rattle.version_index.proofs.Keeping.{is_asked, is_view}
use Rattle.version_index.proofs.store.IndexVersionsVersions.rows_lent.Goals as goal

pub rows_lent-requires-clause-look : goal.rows_lent-requires-clause-look
rows_lent-requires-clause-look c =
    let inside = c.self.inside in
    let view = c.view_of-view.result in
    let table = c.view_of-view.ensures.table ∙ c.table.ensures in
    let index = ap (slice_get inside.indexes.items) c.view_of-view.ensures.table ∙ subst (λ is. slice_get is c.table.result ≡ Some view.index.now) c.as_slice-3.ensures.value c.view_of-view.ensures.index in
    let declared = subst (λ defs. slice_get defs (read_table c.args.read.now) ≡ Some c.def_of-def.result.now) c.as_slice.ensures c.def_of-def.ensures.declared in
    is_asked inside.tables inside.log.items inside.indexes.items inside.noted c.self.invariant view (c.view_of-view.ensures.entries ∙ c.as_slice-2.ensures.value) c.view_of-view.ensures.noted index c.def_of-def.result.now
    c.args.read.now table declared c.def_of-def.ensures.fits

-- the rows of a declared table are those of its declaration
pub returns : goal.returns
returns c =
    let inside = c.self.inside in
    let def = c.def_of-def.result.now in
    let read = c.args.read.now in
    let declared = subst (λ defs. slice_get defs (read_table read) ≡ Some def) c.as_slice.ensures c.def_of-def.ensures.declared in
    subst (λ found. IfOk c.rows_lent.result (λ lent. lent_rows lent.items ≡ rows_of found))
    (ap (λ es. rows def read (tables_at c.args.height (history_of es))) (c.view_of-view.ensures.entries ∙ c.as_slice-2.ensures.value)
    ∙ sym (rows_declared inside.tables def read (tables_at c.args.height (history_of inside.log.items)) declared) ∙ ap (λ store. rows_in store.0 read (tables_at c.args.height store.1.0)) c.self.view_is)
    c.rows_lent.ensures

pub rows_lent-requires-clause-view : goal.rows_lent-requires-clause-view
rows_lent-requires-clause-view c =
    let inside = c.self.inside in
    let view = c.view_of-view.result in
    let index = ap (slice_get inside.indexes.items) c.view_of-view.ensures.table ∙ subst (λ is. slice_get is c.table.result ≡ Some view.index.now) c.as_slice-3.ensures.value c.view_of-view.ensures.index in
    is_view inside.tables inside.log.items inside.indexes.items inside.noted c.self.invariant view (c.view_of-view.ensures.entries ∙ c.as_slice-2.ensures.value) c.view_of-view.ensures.noted index
