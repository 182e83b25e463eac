use Rattle.std.specs.Prelude.{get_or, ◌+◌, ◌≡◌}
use Rattle.std.specs.Vec.Iter.{into_iter_items}
use Rattle.std.proofs.Common.{ap, arith, rules, sym, ◌∙◌}
use Rattle.cluster_run.proofs.Arriving.{brings_same, more_joined}
use Rattle.cluster_run.proofs.Following.{keeps_then, stands_kept}
use Rattle.turn_lock.specs.Passes.{mine, pass_number}
use Rattle.cluster_run.proofs.threads.join_all.Goals as goal

pub take_back-requires-clause-stands : goal.take_back-requires-clause-stands
take_back-requires-clause-stands g c = stands_kept c.requires.stands c.loop-child.invariant.0

pub loop-child-preserved : goal.loop-child-preserved
loop-child-preserved g c =
    let first : get_or (into_iter_items c.loop-child.child-iterator) 0 c.in-Some.child ≡ c.in-Some.child = ap (λ l. get_or l 0 c.in-Some.child) c.in-Some.ensures.steps.0 in
    let promised = c.loop-child.invariant.2 0 c.in-Some.child (omega arith) in
    let executors : c.in-Some.child.promise.executors ≡ c.args.crew.now.executors = ap (λ child. child.promise.executors) (sym first) ∙ promised.1 in
    let arrivals : c.in-Some.child.promise.arrivals.now ≡ c.args.crew.now.arrivals.now = ap (λ child. child.promise.arrivals.now) (sym first) ∙ promised.2 in
    let brings = brings_same c.in-Some.child.promise.executors c.args.crew.now.executors c.in-Some.child.promise.arrivals.now c.args.crew.now.arrivals.now (pass_number c.join-back.result) (mine c.join-back.result) executors arrivals c.join-back.ensures.1 in (
      keeps_then c.loop-child.invariant.0 c.take_back.ensures.keeps,
      search rules,
      (λ k d below. let h = c.loop-child.invariant.2 (k + 1) d in grind rules),
      more_joined c.args.crew.now.executors c.args.crew.now.arrivals.now c.loop-child.pass c.take_back.new.pass c.join-back.result c.take_back.ensures.ledger brings c.loop-child.invariant.3,
    )
