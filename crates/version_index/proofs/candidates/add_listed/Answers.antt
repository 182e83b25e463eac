use Rattle.std.proofs.Common.{◌∙◌, arith, sym}
use Rattle.version_index.specs.Candidates.{IsKeyOf, IsListedAbove}
use Rattle.version_index.proofs.Adding.{adds_none, adds_then, adds_weaker}
use Rattle.version_index.proofs.Offered.{PassedFrom, passed_all, passed_back, passed_below, passed_end, passed_rest, passed_stop}
use Rattle.version_index.proofs.candidates.add_listed.Goals as goal
use Rattle.rel_base.proofs.Lists.{nil_of}

pub loop-number-init : goal.loop-number-init
loop-number-init c =
    let view = c.args.view.now in
    let are = c.requires.numbers in (
      are.0,
      are.1,
      view.noted,
      omega arith,
      are.1,
      adds_none view.index.now.chains c.args.found.now.items (PassedFrom view are.0 view.noted) (passed_end view are.0),
    )

pub entry_at-requires : goal.entry_at-requires
entry_at-requires c =
    let walk = c.loop-number.invariant in
    let low = passed_below c.args.view.now walk.0 walk.2 c.in-Some.number.now c.in-Some.earlier.now (sym c.in-Some.ensures.cases.0 ∙ walk.4) in
    let down = walk.3 in
    let within = c.requires.view.within in
    omega (arith, low, down, within)

pub returns-then-entry_at-height : goal.returns-then-entry_at-height
returns-then-entry_at-height c =
    let view = c.args.view.now in
    let walk = c.loop-number.invariant in
    adds_weaker view.index.now.chains c.args.found.now.items c.loop-number.found.items (PassedFrom view walk.0 walk.2) (IsListedAbove view c.args.numbers.now c.args.height)
    (passed_stop view walk.0 walk.2 c.in-Some.number.now c.in-Some.earlier.now (sym c.in-Some.ensures.cases.0 ∙ walk.4) c.args.numbers.now walk.1 c.args.height c.entry_at.result.now c.requires.view.in_order c.entry_at.ensures
    c.if-entry_at-height.true) walk.5

pub add_key_of-requires : goal.add_key_of-requires
add_key_of-requires c =
    let walk = c.loop-number.invariant in
    let low = passed_below c.args.view.now walk.0 walk.2 c.in-Some.number.now c.in-Some.earlier.now (sym c.in-Some.ensures.cases.0 ∙ walk.4) in
    let down = walk.3 in
    let within = c.requires.view.within in
    omega (arith, low, down, within)

pub loop-number-preserved : goal.loop-number-preserved
loop-number-preserved c =
    let view = c.args.view.now in
    let walk = c.loop-number.invariant in
    let last = c.in-Some.number.now in
    let left = sym c.in-Some.ensures.cases.0 ∙ walk.4 in
    let low = passed_below view walk.0 walk.2 last c.in-Some.earlier.now left in
    let down = walk.3 in (
      walk.0,
      walk.1,
      last,
      omega (arith, low, down),
      passed_rest view walk.0 walk.2 last c.in-Some.earlier.now left,
      adds_then view.index.now.chains c.args.found.now.items c.loop-number.found.items c.add_key_of.new.found.items (PassedFrom view walk.0 walk.2) (IsKeyOf view last) (PassedFrom view walk.0 last)
          (passed_back view walk.0 walk.2 last c.in-Some.earlier.now left) walk.5 c.in_ok-add_key_of.ensures,
    )

pub returns : goal.returns
returns c =
    let view = c.args.view.now in
    let walk = c.loop-number.invariant in
    adds_weaker view.index.now.chains c.args.found.now.items c.loop-number.found.items (PassedFrom view walk.0 walk.2) (IsListedAbove view c.args.numbers.now c.args.height)
    (passed_all view walk.0 c.args.numbers.now walk.1 walk.2 c.args.height (sym walk.4 ∙ nil_of c.loop-number.left.now c.in_default.ensures.cases)) walk.5
