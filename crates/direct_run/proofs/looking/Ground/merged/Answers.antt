use Rattle.std.proofs.Common.{◌≡◌, ap, subst, sym, ◌∙◌, Some, T}
use Rattle.std.specs.Prelude.{slice_get}
use Rattle.std.specs.FinMap.Entries.{is_sorted}
use Rattle.rel_base.specs.Access.{read_table}
use Rattle.rel_base.specs.Among.{rows_by, rows_in}
use Rattle.rel_base.specs.OwnWrites.{keyed}
use Rattle.rel_base.specs.Tables.{rows}
use Rattle.rel_base.specs.Value.{key_cmp}
use Rattle.proc_syntax.proofs.Merging.{keyed_sorted}
use Rattle.direct_run.proofs.looking.Ground.merged.Goals as goal

-- the rows of tables that fit stand in order
pub merge-requires : goal.merge-requires
merge-requires g c =
    let tables = c.args.self.now.tables.now in
    let S = g.S.Snapshot.tables c.args.self.now.source.now in
    let def = c.args.table.def.now in
    let read = c.args.read.now in
    let here : slice_get tables (read_table read) ≡ Some def = ap (slice_get tables) c.requires.of ∙ c.requires.here in
    let same : c.in_ok-rows.rows ≡ rows def read S =
    c.in_ok-rows.ensures ∙ ap (λ declared. rows_in declared read S) c.requires.declared ∙ ap (λ found. rows_by found read S) here in
    subst (λ seens. T (is_sorted key_cmp (keyed def seens))) (sym same) (keyed_sorted tables def read S here c.requires.fit)
