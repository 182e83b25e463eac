use Rattle.std.proofs.Common.{◌∙◌, ◌≡◌, ℕ, ◌-◌, Some, ap, arith, false, inl, inr, subst, sym}
use Rattle.std.proofs.lemmas.Bool.{cases_lt}
use Rattle.row_sets.specs.Log.{history_of, stamped_of}
use Rattle.version_index.specs.Chain.{IsLast, is_seen}
use Rattle.version_index.specs.Numbers.{passes, passes_at}
use Rattle.version_index.proofs.Logged.{get_history}
use Rattle.version_index.proofs.Points.{fails_drop, last_points}
use Rattle.version_index.proofs.finding.seen_in_tail.Goals as goal

-- none after it is seen
pub returns-then-is_seen-clause-last : goal.returns-then-is_seen-clause-last
returns-then-is_seen-clause-last g c =
    let view = c.args.look_up.now.view in
    let test = is_seen (view.table, c.args.key.now) c.args.height in
    let history = history_of view.entries.now in
    let number = c.loop-end.end - 1 in
    let low = c.loop-end-test.true in
    let passes_there = ap (passes test) (get_history view.entries.now number c.probe_at-probed.result.entry.now c.probe_at-probed.ensures.entry)
    ∙ ap (λ table. is_seen (table, c.args.key.now) c.args.height (stamped_of c.probe_at-probed.result.entry.now)) (sym c.table.ensures) ∙ sym c.is_seen.ensures ∙ c.if-is_seen.true in
    subst (λ n. IsLast test history (Some n)) (sym c.probe_at-probed.ensures.number)
    (last_points test history number passes_there (λ j up. c.loop-end.invariant.1 j (omega (arith, low, up))))

pub returns-clause-last : goal.returns-clause-last
returns-clause-last g c =
    let past = c.loop-end-test.false in
    fails_drop (is_seen (c.args.look_up.now.view.table, c.args.key.now) c.args.height) c.args.look_up.now.view.noted (history_of c.args.look_up.now.view.entries.now) (λ j up. c.loop-end.invariant.1 j (omega (arith, past, up)))

-- the one that was looked at is not seen, nor is any after it
pub loop-end-preserved : goal.loop-end-preserved
loop-end-preserved g c =
    let view = c.args.look_up.now.view in
    let test = is_seen (view.table, c.args.key.now) c.args.height in
    let history = history_of view.entries.now in
    let number : ℕ = c.loop-end.end - 1 in
    let low = c.loop-end-test.true in
    let fails_there : passes_at test history number ≡ false = ap (passes test) (get_history view.entries.now number c.probe_at-probed.result.entry.now c.probe_at-probed.ensures.entry)
    ∙ ap (λ table. is_seen (table, c.args.key.now) c.args.height (stamped_of c.probe_at-probed.result.entry.now)) (sym c.table.ensures) ∙ sym c.is_seen.ensures ∙ c.if-is_seen.false in (
      omega arith,
      λ j up. elim (cases_lt number j) [
        | inl above ↦ c.loop-end.invariant.1 j (omega (arith, low, above))
        | inr below ↦
            let same : j ≡ number = omega (arith, up, below) in
            rw same fails_there
      ],
      omega (arith, c.probe_at-probed.ensures.step),
      omega (arith, c.probe_at-probed.ensures.step, low),
    )
