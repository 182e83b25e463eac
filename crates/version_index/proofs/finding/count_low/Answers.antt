use Rattle.std.proofs.lemmas.Grind.{elements}
use Rattle.std.proofs.Common.{◌≡◌, ◌∙◌, ◌+◌, ◌-◌, ◌/◌, ℕ, Bool, List, false, true, arith, length}
use Rattle.row_sets.specs.Log.{history_of}
use Rattle.version_index.specs.Chains.{lists_of, numbers_at}
use Rattle.version_index.specs.Found.{is_low}
use Rattle.version_index.specs.Numbers.{passes_at}
use Rattle.version_index.proofs.Halves.{step_over}
use Rattle.version_index.proofs.Logged.{le_false, le_true}
use Rattle.version_index.proofs.Lows.{low_at, not_behind}
use Rattle.version_index.proofs.finding.count_low.Goals as goal

-- the middle one is low, and so are those before it
pub loop-low-preserved-then-probed-height : goal.loop-low-preserved-then-probed-height
loop-low-preserved-then-probed-height g c =
    let inv = c.loop-low.invariant in
    let below = c.loop-low-test.true in
    let low = c.loop-low.low in
    let high = c.loop-low.high in
    let middle = low + (high - low) / 2 in
    let numbers : List ℕ = numbers_at (lists_of c.args.look_up.now.view.index.now.chains) c.args.slot in
    let entry = c.probe-probed.result.entry.now in
    let is : passes_at (is_low (history_of c.args.look_up.now.view.entries.now) c.args.height) numbers middle ≡ true =
    low_at c.args.look_up.now.view.entries.now c.args.height c.probe-probed.result.number middle numbers entry c.probe-probed.ensures.number c.probe-probed.ensures.entry ∙ le_true entry.block c.args.height c.if-probed-height.true in
    let from = inv.4 in
    let next = c.probe-probed.ensures.step in
    let paid = step_over c.loop-low.steps c.probe-probed.new.steps c.args.steps.now (high - low) (high - (middle + 1)) (length numbers) from next inv.5 (omega (arith, below)) (omega (arith, below)) in (
      omega (arith, below),
      inv.1,
      λ i up. c.requires.falling i middle (omega (arith, up)) is,
      inv.3,
      omega (arith, from, next),
      paid.0,
      paid.1,
    )

-- the middle one is not, and so are those after it
pub loop-low-preserved : goal.loop-low-preserved
loop-low-preserved g c =
    let inv = c.loop-low.invariant in
    let below = c.loop-low-test.true in
    let low = c.loop-low.low in
    let high = c.loop-low.high in
    let middle = low + (high - low) / 2 in
    let numbers : List ℕ = numbers_at (lists_of c.args.look_up.now.view.index.now.chains) c.args.slot in
    let test : ℕ → Bool = passes_at (is_low (history_of c.args.look_up.now.view.entries.now) c.args.height) numbers in
    let entry = c.probe-probed.result.entry.now in
    let fails : test middle ≡ false =
    low_at c.args.look_up.now.view.entries.now c.args.height c.probe-probed.result.number middle numbers entry c.probe-probed.ensures.number c.probe-probed.ensures.entry ∙ le_false entry.block c.args.height c.if-probed-height.false in
    let within = inv.1 in
    let from = inv.4 in
    let next = c.probe-probed.ensures.step in
    let paid = step_over c.loop-low.steps c.probe-probed.new.steps c.args.steps.now (high - low) (middle - low) (length numbers) from next inv.5 (omega (arith, below)) (omega (arith, below)) in (
      omega (arith, below),
      omega (arith, below, within),
      inv.2,
      λ i up. not_behind (test i) (test middle) (c.requires.falling middle i up) fails,
      omega (arith, from, next),
      paid.0,
      paid.1,
    )

pub loop-low-init : goal.loop-low-init
loop-low-init c = grind (arith, elements)
