use denote.Param.{param}
use denote.Param.Send.{IsSend, IsSync, param_send, param_sync, sendable}
use Rattle.std.specs.Prelude.{vec_items, ◌+◌, ◌≡◌}
use Rattle.std.proofs.Common.{ap, rules, subst, sym, ◌∙◌}
use Rattle.std.proofs.Crossing.{crosses}
use Rattle.cluster_run.proofs.Following.{keeps_then}
use Rattle.cluster_run.proofs.Arriving.{brings_same, more_joined, none_joined, same_joined}
use Rattle.cluster_run.proofs.Forks.{all_more}
use Rattle.cluster_run.proofs.Sharing.{node_sync, pass_send}
use Rattle.cluster_run.proofs.shared_block.SharedBlock.TheSendSync as shared_block
use Rattle.cluster_run.specs.Standing.{AllBring, KeepsBlocks}
use Rattle.proc_syntax.proofs.call.Tx.TheSendSync as tx
use Rattle.turn_lock.specs.Passes.{made, mine, pass_number}
use Rattle.cluster_run.proofs.threads.fn.run_crew.scope.Goals.{in-Err, in-Ok}
use Rattle.cluster_run.proofs.threads.fn.run_crew.scope.Goals as goal

pub spawn_with-start-requires-send-F : goal.spawn_with-start-requires-send-F
spawn_with-start-requires-send-F g c κs within =
    let v : IsSend (param 0 g.row.V) = search (rules, param_send) parts 8 in
    let node = node_sync (param 0 g.row.V) g.V.Versions v in
    let pass = pass_send (param 0 g.row.V) g.V.Versions v in
    let gate : IsSync (param 1 g.row.G) = search (rules, c.requires, param_sync) parts 8 in
    let runtime : IsSync (param 2 g.row.R) = search (rules, c.requires, param_sync) parts 8 in
    search (shared_block.the_sync, tx.the_sync, crosses, sendable) depth 60 fits 20000

pub spawn_with-start-requires-send-T : goal.spawn_with-start-requires-send-T
spawn_with-start-requires-send-T g c κs within =
    let v : IsSend (param 0 g.row.V) = search (rules, param_send) parts 8 in
    let pass = pass_send (param 0 g.row.V) g.V.Versions v in
    search sendable depth 60 fits 20000

pub loop-i-init : goal.loop-i-init
loop-i-init g c = (search rules, search rules, search rules, search rules, search rules, search rules, none_joined c.captures.crew.now.executors c.captures.crew.now.arrivals.now c.captures.pass c.requires.alone)

pub loop-i-preserved : goal.loop-i-preserved
loop-i-preserved g c =
    let begun = keeps_then c.loop-i.invariant.0 c.split_off-other.ensures.keeps in
    let counted = c.split_off-other.ensures.counts.0 ∙ ap (λ n. n + 1) c.loop-i.invariant.1 in
    let executors = c.captures.crew.now.executors in
    let handed = c.captures.crew.now.arrivals.now in
    let before = same_joined executors handed c.loop-i.pass c.split_off-other.new.pass c.split_off-other.ensures.ledger c.loop-i.invariant.6 in
    elim c.match-start.branch [
      | in-Ok w ↦ (
        subst (KeepsBlocks c.captures.pass) (sym w.pass-is) begun,
        ap (λ pass. made pass) w.pass-is ∙ counted,
        search rules,
        search rules,
        search rules,
        all_more (λ child. (child.promise.node.value ≡ c.captures.node.now) × (child.promise.executors ≡ executors) × (child.promise.arrivals.now ≡ handed)) c.loop-i.children.items (vec_items c.match-start.children) w.in-Ok.child
            (ap vec_items w.children-is ∙ w.push_reserved.ensures.items) c.loop-i.invariant.5
            (ap (λ promise. promise.node.value) w.in-Ok.ensures.ok ∙ c.new.ensures.node, ap (λ promise. promise.executors) w.in-Ok.ensures.ok ∙ c.new.ensures.executors, ap (λ promise. promise.arrivals.now) w.in-Ok.ensures.ok ∙ c.new.ensures.arrivals),
        subst (AllBring executors handed) (sym w.pass-is) before,
      )
      | in-Err w ↦ (
        subst (KeepsBlocks c.captures.pass) (sym w.pass-is) (keeps_then begun w.take_back.ensures.keeps),
        ap (λ pass. made pass) w.pass-is ∙ (w.take_back.ensures.made ∙ counted),
        search rules,
        search rules,
        search rules,
        search rules,
        subst (AllBring executors handed) (sym w.pass-is) (more_joined executors handed c.split_off-other.new.pass w.take_back.new.pass w.spawn_with-back.result w.take_back.ensures.ledger
            (brings_same w.in-Err.refused.value.2.now.executors executors w.in-Err.refused.value.2.now.arrivals.now handed (pass_number w.spawn_with-back.result) (mine w.spawn_with-back.result)
            (ap (λ f. f.2.now.executors) w.in-Err.ensures.err) (ap (λ f. f.2.now.arrivals.now) w.in-Err.ensures.err) w.spawn_with-back.ensures.1) before),
      )
    ]
