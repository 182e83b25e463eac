use Rattle.std.proofs.Common.{◌≡◌, ◌∙◌, ◌<◌, ◌≤◌, ◌-◌, ◌⊎◌, ℕ, false, inl, inr, ap, arith, sym, take}
use Rattle.row_sets.specs.Log.{history_of}
use Rattle.version_index.specs.Chain.{is_on}
use Rattle.version_index.specs.Numbers.{passes, passes_at}
use Rattle.version_index.proofs.Logged.{get_history}
use Rattle.version_index.proofs.Points.{below_or, fails_drop, last_points, take_at}
use Rattle.version_index.proofs.keyed.last_in_tail.Goals as goal

-- none after it is on the key
pub returns-then-is_on_key-clause-last : goal.returns-then-is_on_key-clause-last
returns-then-is_on_key-clause-last c =
    let test = is_on (c.args.view.now.table, c.args.key.now) in
    let history = history_of c.args.view.now.entries.now in
    let low = c.loop-end-test.true in
    let within = c.loop-end.invariant.0 in
    let there = get_history c.args.view.now.entries.now (c.loop-end.end - 1) c.entry_at.result.now c.entry_at.ensures in
    let on = take_at test c.args.below history (c.loop-end.end - 1) (omega (arith, low, within)) ∙ ap (passes test) there ∙ sym c.is_on_key.ensures ∙ c.if-is_on_key.true in
    last_points test (take c.args.below history) (c.loop-end.end - 1) on (λ j up. c.loop-end.invariant.1 j (omega (arith, low, up)))

-- one more is not on the key
pub loop-end-preserved : goal.loop-end-preserved
loop-end-preserved c = (let within = c.loop-end.invariant.0 in omega (arith, within), λ j up. either j up (below_or j c.loop-end.end))
  where
    either : (j : ℕ) → c.loop-end.end - 1 ≤ j → (j < c.loop-end.end) ⊎ (c.loop-end.end ≤ j) → passes_at (is_on (c.args.view.now.table, c.args.key.now)) (take c.args.below (history_of c.args.view.now.entries.now)) j ≡ false
    either j up (inr high) = c.loop-end.invariant.1 j high
    either j up (inl below) =
        let test = is_on (c.args.view.now.table, c.args.key.now) in
        let history = history_of c.args.view.now.entries.now in
        let within = c.loop-end.invariant.0 in
        let there = get_history c.args.view.now.entries.now (c.loop-end.end - 1) c.entry_at.result.now c.entry_at.ensures in
        let same : j ≡ c.loop-end.end - 1 = omega (arith, up, below) in
        take_at test c.args.below history j (omega (arith, below, within)) ∙ ap (passes_at test history) same ∙ ap (passes test) there ∙ sym c.is_on_key.ensures ∙ c.if-is_on_key.false

pub returns-clause-last : goal.returns-clause-last
returns-clause-last c =
    let past = c.loop-end-test.false in
    fails_drop (is_on (c.args.view.now.table, c.args.key.now)) c.args.view.now.noted (take c.args.below (history_of c.args.view.now.entries.now)) (λ j up. c.loop-end.invariant.1 j (omega (arith, past, up)))
