use Rattle.std.proofs.Common.{◌≡◌, ◌∙◌, ◌+◌, arith, length, refl, subst, suc}
use Rattle.std.specs.Option.{option_copied}
use Rattle.std.proofs.lemmas.List.Elements.{All-weaker}
use Rattle.row_sets.specs.Log.{history_of}
use Rattle.version_index.specs.Chains.{IsNoted, lists_of, numbers_at, slot_of}
use Rattle.version_index.specs.Columns.{AreListed, IsColumn, IsNotedIn, IsSameColumn}
use Rattle.version_index.specs.Index.{IsIndexOf}
use Rattle.version_index.specs.declared.index.TableIndex.{TableIndex}
use Rattle.version_index.proofs.Indexed.{finds, held_index, in_any_case, index_from, index_of, noted_index, own_place, spot_within}
use Rattle.version_index.proofs.Touching.{map_zip}
use Rattle.version_index.proofs.index.TableIndex.note.Goals as goal

-- the values of the columns have their places
pub hold_all-requires : goal.hold_all-requires
hold_all-requires c =
    let entry = c.entry_at.result.now in
    let old = c.args.self.now in
    let is = index_from c.args.entries.now c.args.number entry c.entry_at.ensures c.args.number old c.requires.old in
    record { listed = All-weaker (IsColumn entry.placed.write.table (history_of c.args.entries.now) c.args.number old.chains) (λ column. AreListed column.touched) (λ column column_is. column_is.listed) old.columns.items is.columns }

-- the columns tell the same
pub returns-in_err-hold_all-clause-same : goal.returns-in_err-hold_all-clause-same
returns-in_err-hold_all-clause-same c =
    let entry = c.entry_at.result.now in
    let old = c.args.self.now in
    let is = index_from c.args.entries.now c.args.number entry c.entry_at.ensures c.args.number old c.requires.old in
    in_any_case c.from_residual.result
    (index_of c.args.entries.now c.args.number entry c.entry_at.ensures c.args.number _
    (held_index c.args.entries.now c.args.number entry c.entry_at.ensures old is c.hold_all.new.columns.items c.hold_all.ensures.same old.chains (record { living = refl; ended = refl; lists = refl; lasts = refl; all_in = λ all. all }) _ refl refl))

pub returns-in_err-hold_all-clause-columns : goal.returns-in_err-hold_all-clause-columns
returns-in_err-hold_all-clause-columns c = map_zip (λ column. column.column) IsSameColumn (λ one two same. same.column) c.args.self.now.columns.items c.hold_all.new.columns.items c.hold_all.ensures.same

-- and so do the chains
pub returns-in_err-note-clause-same : goal.returns-in_err-note-clause-same
returns-in_err-note-clause-same c =
    let entry = c.entry_at.result.now in
    let old = c.args.self.now in
    let is = index_from c.args.entries.now c.args.number entry c.entry_at.ensures c.args.number old c.requires.old in
    in_any_case c.from_residual-in_err-note.result
    (index_of c.args.entries.now c.args.number entry c.entry_at.ensures c.args.number _
    (held_index c.args.entries.now c.args.number entry c.entry_at.ensures old is c.hold_all.new.columns.items c.hold_all.ensures.same c.note.new.self c.in_err-note.ensures.same _ refl refl))

pub returns-in_err-note-clause-columns : goal.returns-in_err-note-clause-columns
returns-in_err-note-clause-columns c = map_zip (λ column. column.column) IsSameColumn (λ one two same. same.column) c.args.self.now.columns.items c.hold_all.new.columns.items c.hold_all.ensures.same

-- the chains tell the writes before it
pub spot_of-spot-requires : goal.spot_of-spot-requires
spot_of-spot-requires c =
    let entry = c.entry_at.result.now in
    let is = index_from c.args.entries.now c.args.number entry c.entry_at.ensures c.args.number c.args.self.now c.requires.old in
    let there = c.requires.there in
    (entry.placed.write.table, c.args.number, omega (arith, there), is.chains)

-- the chains keep the last writes
pub found_row-found-requires : goal.found_row-found-requires
found_row-found-requires c =
    let entry = c.entry_at.result.now in
    let is = index_from c.args.entries.now c.args.number entry c.entry_at.ensures c.args.number c.args.self.now c.requires.old in
    is.chains.lasts

-- the key stands at one of the slots
pub note-requires-clause-within : goal.note-requires-clause-within
note-requires-clause-within c =
    let entry = c.entry_at.result.now in
    let old = c.args.self.now in
    let is = index_from c.args.entries.now c.args.number entry c.entry_at.ensures c.args.number old c.requires.old in
    spot_within c.spot_of-spot.result (slot_of old.chains entry.placed.write.key) (length (lists_of old.chains)) c.spot_of-spot.ensures.slot (is.chains.within entry.placed.write.key)

-- all parts with the write noted
pub returns-clause-new : goal.returns-clause-new
returns-clause-new c =
    let entry = c.entry_at.result.now in
    let old = c.args.self.now in
    let is = index_from c.args.entries.now c.args.number entry c.entry_at.ensures c.args.number old c.requires.old in
    let own = own_place c.args.entries.now c.args.number entry c.entry_at.ensures old is c.slot_at-slot.result c.count.result c.own_slot-own.result (c.slot_at-slot.ensures ∙ c.spot_of-spot.ensures.slot) c.count.ensures c.own_slot-own.ensures in
    let found = c.found_row-found.ensures ∙ finds c.args.entries.now c.args.number entry c.entry_at.ensures old is (numbers_at (lists_of old.chains) c.slot_at-slot.result) c.slot_at-slot.result (c.slot_at-slot.ensures ∙ c.spot_of-spot.ensures.slot) refl in
    let next : suc c.args.number ≡ c.args.number + 1 = omega arith in
    let noted = subst (λ lives. IsNoted entry.placed.write.key lives c.args.number old.chains c.note.new.self) c.is_some.ensures c.in_ok-note.ensures.noted in
    let index : TableIndex = record { chains = c.note.new.self; columns = c.note_all.new.columns } in
    subst (λ n. IsIndexOf c.args.entries.now c.args.number n index) next
    (index_of c.args.entries.now c.args.number entry c.entry_at.ensures (suc c.args.number) index
    (noted_index c.args.entries.now c.args.number entry c.entry_at.ensures old is c.hold_all.new.columns.items c.hold_all.ensures.same (option_copied c.found_row-found.result) found c.own_slot-own.result own
    c.note.new.self noted c.note_all.new.columns.items c.note_all.ensures index refl refl))

pub returns-clause-columns : goal.returns-clause-columns
returns-clause-columns c =
    map_zip (λ column. column.column) (IsNotedIn c.own_slot-own.result (option_copied c.found_row-found.result) c.entry_at.result.now.placed.write c.args.number) (λ one two more. more.column) c.hold_all.new.columns.items
    c.note_all.new.columns.items c.note_all.ensures
    ∙ map_zip (λ column. column.column) IsSameColumn (λ one two same. same.column) c.args.self.now.columns.items c.hold_all.new.columns.items c.hold_all.ensures.same
