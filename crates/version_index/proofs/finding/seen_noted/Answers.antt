use Rattle.std.proofs.Common.{◌≡◌, ◌∙◌, ◌<◌, ◌≤◌, ◌-◌, suc, ℕ, Bool, List, All, ap, arith, length, subst, sym, take, true}
use Rattle.rel_base.specs.declared.value.Value.{Value}
use Rattle.row_sets.specs.Log.{history_of}
use Rattle.version_index.specs.Chain.{is_on}
use Rattle.version_index.specs.Chains.{lists_of, numbers_at}
use Rattle.version_index.specs.Found.{count_on, is_low}
use Rattle.version_index.specs.Numbers.{passes_at, passing}
use Rattle.version_index.proofs.Halves.{one_more}
use Rattle.version_index.proofs.Lows.{falls, few_on, last_by_count, low_before, none_by_count, passing_below}
use Rattle.version_index.proofs.Passing.{take_next}
use Rattle.version_index.proofs.finding.seen_noted.Goals as goal

pub count_low-count-requires-clause-within : goal.count_low-count-requires-clause-within
count_low-count-requires-clause-within g c =
    let view = c.args.look_up.now.view in
    let on : ℕ → Bool = passes_at (is_on (view.table, c.args.key.now)) (history_of view.entries.now) in
    let are : numbers_at (lists_of view.index.now.chains) c.args.slot ≡ passing on view.noted = ap (numbers_at (lists_of view.index.now.chains)) c.requires.slot ∙ c.requires.view.index.chains.numbers c.args.key.now in
    subst (All (λ (number : ℕ). number < length view.entries.now)) (sym are) (passing_below on view.noted (length view.entries.now) c.requires.view.within)

pub probe-requires-clause-within : goal.probe-requires-clause-within
probe-requires-clause-within g c =
    let view = c.args.look_up.now.view in
    let on : ℕ → Bool = passes_at (is_on (view.table, c.args.key.now)) (history_of view.entries.now) in
    let are : numbers_at (lists_of view.index.now.chains) c.args.slot ≡ passing on view.noted = ap (numbers_at (lists_of view.index.now.chains)) c.requires.slot ∙ c.requires.view.index.chains.numbers c.args.key.now in
    subst (All (λ (number : ℕ). number < length view.entries.now)) (sym are) (passing_below on view.noted (length view.entries.now) c.requires.view.within)

pub count_low-count-requires-clause-falling : goal.count_low-count-requires-clause-falling
count_low-count-requires-clause-falling g c =
    let view = c.args.look_up.now.view in
    let history = history_of view.entries.now in
    let on : ℕ → Bool = passes_at (is_on (view.table, c.args.key.now)) history in
    let low : ℕ → Bool = is_low history c.args.height in
    let are : numbers_at (lists_of view.index.now.chains) c.args.slot ≡ passing on view.noted = ap (numbers_at (lists_of view.index.now.chains)) c.requires.slot ∙ c.requires.view.index.chains.numbers c.args.key.now in
    subst (λ (numbers : List ℕ). (i j : ℕ) → i ≤ j → passes_at low numbers j ≡ true → passes_at low numbers i ≡ true) (sym are) (falls on low (low_before history c.args.height c.requires.view.in_order) view.noted)

-- none of the noted writes is low
pub returns-then-count-eq0-clause-last : goal.returns-then-count-eq0-clause-last
returns-then-count-eq0-clause-last g c =
    let view = c.args.look_up.now.view in
    let ref : ℕ × List Value = (view.table, c.args.key.now) in
    let history = history_of view.entries.now in
    let numbers : List ℕ = numbers_at (lists_of view.index.now.chains) c.args.slot in
    let are : numbers ≡ passing (passes_at (is_on ref) history) view.noted = ap (numbers_at (lists_of view.index.now.chains)) c.requires.slot ∙ c.requires.view.index.chains.numbers c.args.key.now in
    none_by_count ref c.args.height history view.noted numbers c.count_low-count.result are c.count_low-count.ensures.low c.count_low-count.ensures.high (ap (λ n. take n numbers) c.if-count-eq0.true)

pub returns-then-count-eq0-clause-cost : goal.returns-then-count-eq0-clause-cost
returns-then-count-eq0-clause-cost g c =
    let view = c.args.look_up.now.view in
    let ref : ℕ × List Value = (view.table, c.args.key.now) in
    let history = history_of view.entries.now in
    let are : numbers_at (lists_of view.index.now.chains) c.args.slot ≡ passing (passes_at (is_on ref) history) view.noted = ap (numbers_at (lists_of view.index.now.chains)) c.requires.slot ∙ c.requires.view.index.chains.numbers c.args.key.now in
    let few = subst (λ (xs : List ℕ). length xs ≤ count_on view.table history) (sym are) (few_on ref history view.noted) in
    let cost = c.count_low-count.ensures.cost in
    omega (arith, few, cost)

-- the last of those that are low
pub returns-clause-last : goal.returns-clause-last
returns-clause-last g c =
    let view = c.args.look_up.now.view in
    let ref : ℕ × List Value = (view.table, c.args.key.now) in
    let history = history_of view.entries.now in
    let numbers : List ℕ = numbers_at (lists_of view.index.now.chains) c.args.slot in
    let are : numbers ≡ passing (passes_at (is_on ref) history) view.noted = ap (numbers_at (lists_of view.index.now.chains)) c.requires.slot ∙ c.requires.view.index.chains.numbers c.args.key.now in
    let count = c.count_low-count.result in
    let some = c.if-count-eq0.false in
    let more : count ≡ suc (count - 1) = omega (arith, some) in
    last_by_count ref c.args.height history view.noted numbers count are c.count_low-count.ensures.low c.count_low-count.ensures.high c.probe.result.number (take (count - 1) numbers)
    (ap (λ n. take n numbers) more ∙ take_next numbers (count - 1) c.probe.result.number c.probe.ensures.number)

pub returns-clause-cost : goal.returns-clause-cost
returns-clause-cost g c =
    let view = c.args.look_up.now.view in
    let ref : ℕ × List Value = (view.table, c.args.key.now) in
    let history = history_of view.entries.now in
    let numbers : List ℕ = numbers_at (lists_of view.index.now.chains) c.args.slot in
    let are : numbers ≡ passing (passes_at (is_on ref) history) view.noted = ap (numbers_at (lists_of view.index.now.chains)) c.requires.slot ∙ c.requires.view.index.chains.numbers c.args.key.now in
    let few = subst (λ (xs : List ℕ). length xs ≤ count_on view.table history) (sym are) (few_on ref history view.noted) in
    one_more c.args.steps.now c.count_low-count.new.steps c.probe.new.steps (length numbers) (count_on view.table history) c.count_low-count.ensures.on c.probe.ensures.step c.count_low-count.ensures.cost few
