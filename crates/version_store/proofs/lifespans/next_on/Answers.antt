use Rattle.std.proofs.Common.{◌≡◌, ◌∙◌, ◌+◌, suc, ap, sym, arith, drop, Some}
use Rattle.std.specs.List.{find}
use Rattle.std.specs.Option.{option_map}
use Rattle.std.proofs.lemmas.List.{drop_all, length-map}
use Rattle.row_sets.specs.Lifespans.{is_of_key}
use Rattle.row_sets.specs.Log.{history_of, stamped_of}
use Rattle.version_store.proofs.Leasts.{get_history}
use Rattle.version_store.proofs.Spans.{find_here, find_past}
use Rattle.version_store.proofs.lifespans.next_on.Goals as goal
use Rattle.rel_base.specs.Tables.{place_of}

pub returns-then-is_on_key : goal.returns-then-is_on_key
returns-then-is_on_key c =
    let test = is_of_key c.args.table c.args.key.now in
    let entry = c.entry_at-entry.result.now in
    let there = get_history c.args.log.now c.loop-number.number entry c.entry_at-entry.ensures in
    ap Some c.place_at.ensures ∙ ap (option_map place_of) (sym (find_here test (history_of c.args.log.now) c.loop-number.number (stamped_of entry) there (sym c.is_on_key.ensures ∙ c.if-is_on_key.true)) ∙ c.loop-number.invariant)

pub loop-number-preserved : goal.loop-number-preserved
loop-number-preserved c =
    let test = is_of_key c.args.table c.args.key.now in
    let entry = c.entry_at-entry.result.now in
    let there = get_history c.args.log.now c.loop-number.number entry c.entry_at-entry.ensures in
    let next : c.loop-number.number + 1 ≡ suc c.loop-number.number = omega arith in
    ap (λ n. find test (drop n (history_of c.args.log.now))) next
    ∙ sym (find_past test (history_of c.args.log.now) c.loop-number.number (stamped_of entry) there (sym c.is_on_key.ensures ∙ c.if-is_on_key.false)) ∙ c.loop-number.invariant

-- none is left
pub returns : goal.returns
returns c =
    let test = is_of_key c.args.table c.args.key.now in
    let past = c.loop-number-test.false in
    let same = length-map c.args.log.now stamped_of in
    ap (option_map place_of) (ap (find test) (sym (drop_all c.loop-number.number (history_of c.args.log.now) (omega (arith, past, same)))) ∙ c.loop-number.invariant)
