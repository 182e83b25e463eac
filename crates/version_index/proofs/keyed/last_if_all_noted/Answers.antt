use Rattle.std.proofs.Common.{◌≡◌, ◌∙◌, None, Some, ap, arith, length, subst, sym, take}
use Rattle.std.proofs.lemmas.List.{length-map, take_all}
use Rattle.row_sets.specs.Log.{stamped_of}
use Rattle.version_index.specs.Chain.{IsLast, IsLastFrom, is_on}
use Rattle.version_index.specs.Chains.{lists_of, numbers_at}
use Rattle.version_index.specs.Numbers.{passes_at, passing}
use Rattle.version_index.specs.View.{history_in, noted_below}
use Rattle.version_index.proofs.LastNumbers.{told_last}
use Rattle.version_index.proofs.Points.{fails_drop, take_past}
use Rattle.version_index.proofs.Walked.{last_at, lesser_high}
use Rattle.version_index.proofs.keyed.last_if_all_noted.Goals as goal

-- the last of the noted writes on the key is the last of all
pub returns-in-Some : goal.returns-in-Some
returns-in-Some c key slot =
    let view = c.args.view.now in
    let test = is_on (view.table, key) in
    let end = length view.entries.now in
    let past = c.if-view.false in
    let numbers = numbers_at (lists_of view.index.now.chains) (Some c.in-Some.slot) in
    let is : numbers ≡ noted_below view key end =
    ap (numbers_at (lists_of view.index.now.chains)) (sym c.in-Some.is ∙ slot) ∙ c.requires.index.chains.numbers key ∙ ap (passing (passes_at test (history_in view))) (sym (lesser_high end view.noted c.requires.within)) in
    let none : IsLastFrom test view.noted (take end (history_in view)) None =
    fails_drop test view.noted (take end (history_in view)) (λ j up. take_past test end (history_in view) j (omega (arith, past, up))) in
    let same = length-map view.entries.now stamped_of in
    told_last (IsLast test (history_in view)) numbers c.last.result (c.last.ensures c.requires.index.chains.lasts) (λ number before parts. subst (λ history. IsLast test history (Some number)) (take_all end (history_in view) (omega (arith, same)))
    (last_at view key numbers end is none number before parts))
