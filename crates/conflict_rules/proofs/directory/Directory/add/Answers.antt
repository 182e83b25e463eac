use Rattle.std.proofs.Common.{[], arith, length, subst, sym, true, ◌++◌, ◌+◌, ◌≡◌, ◌∷◌}
use Rattle.std.proofs.lemmas.List.{length_push}
use Rattle.conflict_rules.proofs.Marks.{StaysMarked, has_marks_in, has_more, reads_more, value_then, values_kept}
use Rattle.conflict_rules.proofs.directory.Directory.add.Goals as goal
use Rattle.conflict_rules.specs.Marking.{has_read_at, has_value_in, has_write_at, is_marked, is_value_marked}
use Rattle.node_model.specs.declared.result.Committed.{Committed}

pub returns : goal.returns
returns c = λ committed pos same is.
    let done : Committed = record { pos = pos; reads = c.args.reads.now; writes = c.args.writes.now } in
    let longer : length (committed ++ done ∷ []) ≡ length committed + 1 = length_push committed done in
    let below = c.requires.few in
    let words = c.args.self.now.writers.items in
    let words' = c.note_writes.new.words.items in
    let old = c.args.self.now.marked in
    let new = c.column_with-self.result in
    let stays : StaysMarked old new = c.column_with-self.ensures in
    record {
      few = omega (arith, longer, same, below);
      writes = has_more (λ d. has_write_at d.writes) committed done (is_marked words')
          (has_marks_in (λ d. has_write_at d.writes) committed (is_marked words) (is_marked words') c.note_writes.ensures.kept is.writes)
          (λ place at. subst (λ n. is_marked words' place n ≡ true) (sym same)
          (c.note_writes.ensures.own place (subst (λ writes. has_write_at writes place ≡ true) (sym c.as_slice-2.ensures) at)));
      values = has_more (λ d. has_value_in new d.writes) committed done (is_value_marked words')
          (λ number place d at has. values_kept words words' c.note_writes.ensures.kept place number (is.values number place d at (value_then old new stays d.writes place has)))
          (λ place at. subst (λ n. is_value_marked words' place n ≡ true) (sym same)
          (c.note_writes.ensures.values place (subst (λ writes. has_value_in new writes place ≡ true) (sym c.as_slice-2.ensures) at)));
      reads = reads_more old new stays c.args.self.now.readers.items c.note_reads.new.words.items c.note_reads.ensures.kept committed done is.reads
          (λ place at. subst (λ n. is_marked c.note_reads.new.words.items place n ≡ true) (sym same)
          (c.note_reads.ensures.own place (subst (λ reads. has_read_at new reads place ≡ true) (sym c.as_slice-3.ensures) at)));
    }
