use Rattle.std.proofs.Common.{◌<◌, ℕ, List, arith, subst, sym}
use Rattle.rel_base.specs.declared.value.Value.{Value}
use Rattle.row_sets.specs.Log.{history_of}
use Rattle.version_index.specs.Chain.{is_late, is_on}
use Rattle.version_index.proofs.Firsts.{late_end, late_start}
use Rattle.version_index.proofs.Lasts.{count, fewer_left}
use Rattle.version_index.proofs.Logged.{late_within}
use Rattle.version_index.proofs.Walked.{KeyWalk, key_back, key_below, key_stop, number_of_back}
use Rattle.version_index.proofs.keyed.first_late.Goals as goal

pub loop-place-init : goal.loop-place-init
loop-place-init c =
    let ref : ℕ × List Value = (c.args.view.now.table, c.args.key.now) in (
      late_start (is_on ref) (is_late ref c.args.after c.args.upto) (late_within ref c.args.after c.args.upto) (history_of c.args.view.now.entries.now) (number_of_back c.last_on-place.result) c.last_on-place.ensures.last,
      c.last_on-place.ensures.left,
    )

pub entry_at-requires : goal.entry_at-requires
entry_at-requires c =
    let ref : ℕ × List Value = (c.args.view.now.table, c.args.key.now) in
    key_below c.args.view.now.entries.now ref c.args.after c.args.upto c.in-Some.back.number c.loop-place.first
    (subst (λ place. KeyWalk c.args.view.now.entries.now ref c.args.after c.args.upto (number_of_back place) c.loop-place.first) c.in-Some.is c.loop-place.invariant.0)

pub returns-then-block-after : goal.returns-then-block-after
returns-then-block-after c =
    let ref : ℕ × List Value = (c.args.view.now.table, c.args.key.now) in
    key_stop c.args.view.now.entries.now ref c.args.after c.args.upto c.in-Some.back.number c.entry_at.result.now c.loop-place.first c.requires.view.in_order c.entry_at.ensures c.if-block-after.true
    (subst (λ place. KeyWalk c.args.view.now.entries.now ref c.args.after c.args.upto (number_of_back place) c.loop-place.first) c.in-Some.is c.loop-place.invariant.0)

pub last_before-place-requires-clause-within : goal.last_before-place-requires-clause-within
last_before-place-requires-clause-within c =
    let ref : ℕ × List Value = (c.args.view.now.table, c.args.key.now) in
    let below = key_below c.args.view.now.entries.now ref c.args.after c.args.upto c.in-Some.back.number c.loop-place.first
    (subst (λ place. KeyWalk c.args.view.now.entries.now ref c.args.after c.args.upto (number_of_back place) c.loop-place.first) c.in-Some.is c.loop-place.invariant.0) in
    omega (arith, below)

pub loop-place-smaller : goal.loop-place-smaller
loop-place-smaller c =
    let test = is_on (c.args.view.now.table, c.args.key.now) in
    subst (λ place. count (number_of_back c.last_before-place.result) < count (number_of_back place)) (sym c.in-Some.is)
    (fewer_left test c.in-Some.back.number (history_of c.args.view.now.entries.now) (number_of_back c.last_before-place.result) c.last_before-place.ensures.last)

pub loop-place-preserved : goal.loop-place-preserved
loop-place-preserved c =
    let ref : ℕ × List Value = (c.args.view.now.table, c.args.key.now) in (
      subst (KeyWalk c.args.view.now.entries.now ref c.args.after c.args.upto (number_of_back c.last_before-place.result)) (sym c.first_of-first.ensures)
          (key_back c.args.view.now.entries.now ref c.args.after c.args.upto c.in-Some.back.number c.entry_at.result.now (number_of_back c.last_before-place.result) c.loop-place.first c.entry_at.ensures c.if-block-after.false
          c.last_before-place.ensures.last
          (subst (λ place. KeyWalk c.args.view.now.entries.now ref c.args.after c.args.upto (number_of_back place) c.loop-place.first) c.in-Some.is c.loop-place.invariant.0)),
      c.last_before-place.ensures.left,
    )

pub returns : goal.returns
returns c =
    let ref : ℕ × List Value = (c.args.view.now.table, c.args.key.now) in
    late_end (is_on ref) (is_late ref c.args.after c.args.upto) (late_within ref c.args.after c.args.upto) (history_of c.args.view.now.entries.now) c.loop-place.first
    (subst (λ place. KeyWalk c.args.view.now.entries.now ref c.args.after c.args.upto (number_of_back place) c.loop-place.first) c.in_default.is c.loop-place.invariant.0)
