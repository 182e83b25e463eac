use Rattle.std.proofs.Common.{◌≡◌, ◌∙◌, ◌+◌, ◌++◌, suc, subst, arith, ap, reverse, drop}
use Rattle.std.specs.List.{find}
use Rattle.std.specs.Option.{option_map}
use Rattle.row_sets.specs.Lifespans.{is_of_table, lifespan, lifespans, place_of}
use Rattle.row_sets.proofs.Endings.{on_ok_then}
use Rattle.row_sets.specs.Log.{history_of, stamped_of}
use Rattle.version_index.specs.Chain.{is_on}
use Rattle.version_index.specs.Rows.{AreFirsts, write_of}
use Rattle.version_index.proofs.Ended.{all_skip, all_step, firsts_skip, firsts_step}
use Rattle.version_index.proofs.Logged.{get_history}
use Rattle.version_index.proofs.lifespans.add_before.Goals as goal

pub returns-then-entry-table-clause-versions : goal.returns-then-entry-table-clause-versions
returns-then-entry-table-clause-versions c =
    let next : c.args.number + 1 ≡ suc c.args.number = omega arith in
    let history = history_of c.args.entries.now in
    let there = get_history c.args.entries.now c.args.number c.entry_at-entry.result.now c.entry_at-entry.ensures in
    c.requires.versions ∙ ap (λ n. lifespans (is_of_table c.args.table) (drop n history)) next
    ∙ all_skip c.args.table history c.args.number (stamped_of c.entry_at-entry.result.now) there c.if-entry-table.true

pub returns-then-entry-table-clause-firsts : goal.returns-then-entry-table-clause-firsts
returns-then-entry-table-clause-firsts c =
    let next : c.args.number + 1 ≡ suc c.args.number = omega arith in
    let history = history_of c.args.entries.now in
    let there = get_history c.args.entries.now c.args.number c.entry_at-entry.result.now c.entry_at-entry.ensures in
    firsts_skip c.args.table history c.args.number (stamped_of c.entry_at-entry.result.now) there c.args.next.now c.if-entry-table.true
    (subst (λ n. AreFirsts c.args.table n history c.args.next.now) next c.requires.firsts)

-- the version of the write comes before those after it
pub returns-clause-versions : goal.returns-clause-versions
returns-clause-versions c =
    let next : c.args.number + 1 ≡ suc c.args.number = omega arith in
    let history = history_of c.args.entries.now in
    let entry = c.entry_at-entry.result.now in
    let there = get_history c.args.entries.now c.args.number entry c.entry_at-entry.ensures in
    let behind = c.requires.versions ∙ ap (λ n. lifespans (is_of_table c.args.table) (drop n history)) next in
    let ended = c.place_of_number-ended.ensures ∙ ap (λ head. option_map place_of (write_of history head)) c.last.ensures ∙ ap (option_map place_of) (c.requires.firsts entry.placed.write.key)
    ∙ ap (λ n. option_map place_of (find (is_on (c.args.table, entry.placed.write.key)) (drop n history))) next in
    let made = c.in_ok-add_version.ensures ∙ ap (λ place. c.args.versions.now.items ++ lifespan entry.placed.write.after place c.place_of_number-ended.result) c.place_at.ensures in
    on_ok_then c.note.result
    (λ sets. ap reverse made ∙ all_step c.args.table history c.args.number (stamped_of entry) there c.args.versions.now.items c.place_of_number-ended.result c.if-entry-table.false behind ended)
    c.note.ensures

-- the write is the next one on its key
pub returns-clause-firsts : goal.returns-clause-firsts
returns-clause-firsts c =
    let next : c.args.number + 1 ≡ suc c.args.number = omega arith in
    let history = history_of c.args.entries.now in
    let there = get_history c.args.entries.now c.args.number c.entry_at-entry.result.now c.entry_at-entry.ensures in
    on_ok_then c.note.result
    (λ sets. firsts_step c.args.table history c.args.number (stamped_of c.entry_at-entry.result.now) there c.args.next.now c.note.new.self
    (subst (λ n. AreFirsts c.args.table n history c.args.next.now) next c.requires.firsts) sets) c.note.ensures
