use Rattle.std.proofs.lemmas.Grind.{elements}
use Rattle.std.proofs.Common.{◌≡◌, ◌∙◌, ◌+◌, ℕ, List, arith, subst, suc, sym, map, ap, slice_set}
use Rattle.std.proofs.Math.Seq.{map-set_same}
use Rattle.row_sets.proofs.Endings.{on_ok_then, on_err_then}
use Rattle.row_sets.specs.Log.{history_of}
use Rattle.version_index.specs.Index.{AreNoted, IsIndex}
use Rattle.version_index.specs.declared.column.ColumnIndex.{ColumnIndex}
use Rattle.version_index.specs.declared.index.TableIndex.{TableIndex}
use Rattle.version_index.proofs.Indexed.{index_from}
use Rattle.version_index.proofs.Tabled.{noted_in, same_in}
use Rattle.version_index.proofs.growth.note_one.Goals as goal

-- the index of the table of the write notes it, and the others need not
pub returns-clause-new : goal.returns-clause-new
returns-clause-new c =
    let entry = c.entry_at.result.now in
    let next : suc c.args.number ≡ c.args.number + 1 = omega arith in
    on_ok_then c.note.result (λ is.
    subst (AreNoted (slice_set c.args.indexes.now.items entry.placed.write.table c.note.new.self) (history_of c.args.entries.now)) next
    (noted_in c.args.entries.now c.args.number entry c.args.indexes.now.items c.note.new.self c.entry_at.ensures c.requires.old
    (subst (λ n. IsIndex entry.placed.write.table (history_of c.args.entries.now) n c.note.new.self) (sym next) (index_from c.args.entries.now c.args.number entry c.entry_at.ensures (c.args.number + 1) c.note.new.self is))))
    c.note.ensures.new

pub returns-clause-same : goal.returns-clause-same
returns-clause-same c =
    let entry = c.entry_at.result.now in
    on_err_then c.note.result (λ is.
    same_in c.args.entries.now c.args.number entry c.args.indexes.now.items c.note.new.self c.requires.old
    (index_from c.args.entries.now c.args.number entry c.entry_at.ensures c.args.number c.note.new.self is))
    c.note.ensures.same

pub returns-clause-columns : goal.returns-clause-columns
returns-clause-columns c =
    let columns : TableIndex → List ℕ = λ index. map (λ (column : ColumnIndex). column.column) index.columns.items in
    map-set_same columns c.args.indexes.now.items c.entry_at.result.now.placed.write.table c.note.new.self c.index_mut.result.now (c.note.ensures.columns ∙ ap columns c.index_mut.ensures.value)

pub index_mut-requires : goal.index_mut-requires
index_mut-requires c = grind (arith, elements)

pub note-requires-clause-old : goal.note-requires-clause-old
note-requires-clause-old c = grind (arith, elements)
