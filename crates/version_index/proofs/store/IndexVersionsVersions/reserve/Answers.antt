use Rattle.std.proofs.Common.{◌<◌, All, length, refl, subst, sym}
use Rattle.row_sets.specs.Log.{history_of}
use Rattle.row_sets.specs.declared.entry.LogEntry.{LogEntry}
use Rattle.version_index.specs.Index.{AreNoted}
use Rattle.version_index.proofs.Keeping.{entries_below, kept_noted}
use Rattle.version_index.proofs.store.IndexVersionsVersions.reserve.Goals as goal

-- the writes of the log are of tables that have an index
pub note_tail-requires-clause-tables : goal.note_tail-requires-clause-tables
note_tail-requires-clause-tables c =
    subst (All (λ (entry : LogEntry). entry.placed.write.table < length c.self.inside.indexes.items)) (sym c.as_slice.ensures.value)
    (entries_below c.self.inside.tables c.self.inside.log.items c.self.inside.indexes.items c.self.inside.noted c.self.invariant)

pub note_tail-requires-clause-old : goal.note_tail-requires-clause-old
note_tail-requires-clause-old c = subst (λ es. AreNoted c.self.inside.indexes.items (history_of es) c.self.inside.noted) (sym c.as_slice.ensures.value) c.self.invariant.told

-- more writes are noted, whether or not the memory was enough for all
pub invariant_of-self : goal.invariant_of-self
invariant_of-self c =
    kept_noted c.self.inside.tables c.self.inside.log.items c.self.inside.indexes.items c.self.inside.noted c.self.invariant c.note_tail.new.indexes.items c.note_tail.new.noted c.as_slice.result.now
    c.self.inside.log.items c.as_slice.ensures.value refl c.note_tail.ensures.within c.note_tail.ensures.new c.note_tail.ensures.columns

pub invariant_of-self-in_err-hold_log : goal.invariant_of-self-in_err-hold_log
invariant_of-self-in_err-hold_log c =
    kept_noted c.self.inside.tables c.self.inside.log.items c.self.inside.indexes.items c.self.inside.noted c.self.invariant c.note_tail.new.indexes.items c.note_tail.new.noted c.as_slice.result.now
    c.hold_log.new.log.items c.as_slice.ensures.value c.hold_log.ensures.items c.note_tail.ensures.within c.note_tail.ensures.new c.note_tail.ensures.columns

pub invariant_of-self-2 : goal.invariant_of-self-2
invariant_of-self-2 c =
    kept_noted c.self.inside.tables c.self.inside.log.items c.self.inside.indexes.items c.self.inside.noted c.self.invariant c.note_tail.new.indexes.items c.note_tail.new.noted c.as_slice.result.now
    c.hold_log.new.log.items c.as_slice.ensures.value c.hold_log.ensures.items c.note_tail.ensures.within c.note_tail.ensures.new c.note_tail.ensures.columns
