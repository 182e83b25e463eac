use denote.Param.{param}
use denote.Param.Send.{IsSync, param_sync, sendable}
use Rattle.std.specs.Prelude.{IfOk, List, Ok, [], get_or, length, ◌+◌, ◌<◌, ◌≡◌, ℕ}
use Rattle.std.specs.Vec.Iter.{into_iter_items}
use Rattle.std.proofs.Common.{ap, arith, refl, rules, subst, sym, ◌∙◌}
use Rattle.std.proofs.Crossing.{crosses}
use Rattle.cluster_run.proofs.Arriving.{fed_first, fed_rest, fed_snoc}
use Rattle.cluster_run.proofs.Crossing.{checked_send, checked_sync}
use Rattle.cluster_run.proofs.Forks.{all_more, counts_one}
use Rattle.cluster_run.proofs.shared_block.SharedBlock.TheSendSync as shared_block
use Rattle.cluster_run.specs.Arrivals.{AreFedBy, IsFedBy}
use Rattle.cluster_run.specs.Nodes.{IsNodeOf}
use Rattle.node_model.specs.declared.result.NodeResult.{NodeResult}
use Rattle.proc_syntax.specs.declared.call.Tx.{Tx}
use Rattle.proc_syntax.proofs.call.Tx.TheSendSync as tx
use Rattle.rel_base.proofs.list.List.TheSendSync as list
use Rattle.cluster_run.proofs.cluster.run_cluster.Goals as goal

pub map_indices-requires-sync-F : goal.map_indices-requires-sync-F
map_indices-requires-sync-F g c κs within =
    let gate : IsSync (param 1 g.row.G) = search (rules, c.requires, param_sync) parts 8 in
    let runtime : IsSync (param 2 g.row.R) = search (rules, c.requires, param_sync) parts 8 in
    search (checked_send, checked_sync, list.the_sync, shared_block.the_sync, tx.the_sync, crosses, sendable) depth 60 fits 20000

pub loop-node-init : goal.loop-node-init
loop-node-init g c =
    let empty : c.new-nodes.result ≡ [] = search rules in (
      search rules,
      search rules,
      search rules,
      search rules,
      subst (λ (nodes : List NodeResult). AreFedBy nodes c.args.arrivals.now) (sym empty) tt,
    )

pub loop-node-preserved : goal.loop-node-preserved
loop-node-preserved g c =
    let P : NodeResult → Type 0 = IsNodeOf c.args.app.now.value.app c.args.blocks.now in
    let was = c.loop-node.invariant in
    let now = c.in-Some.ensures.steps in
    let node = c.in_ok-node.field-0 in
    let lists : List (List Tx) = c.args.arrivals.now in
    let place : ℕ = length c.loop-node.nodes in
    let ok : c.in-Some.node ≡ Ok node = search rules in
    let first : get_or (into_iter_items c.loop-node.node-iterator) 0 c.in-Some.node ≡ c.in-Some.node = ap (λ l. get_or l 0 c.in-Some.node) now.0 in
    let good : P node = subst (λ r. IfOk r P) (first ∙ ok) (was.1 0 c.in-Some.node (omega arith)) in
    let more = counts_one c.loop-node.nodes c.push.new.self node c.in_ok-push.ensures.ok in
    let room : place < length lists = search rules in
    let fed : IsFedBy node (get_or lists place []) = subst (λ r. IfOk r (λ told. IsFedBy told (get_or lists place []))) ok (fed_first _ c.in-Some.node _ lists place now.0 was.3) in (
      search rules,
      (λ k d below. let h = was.1 (k + 1) d in grind rules),
      all_more P c.loop-node.nodes c.push.new.self node c.in_ok-push.ensures.ok was.2 good,
      fed_rest _ c.in-Some.node _ lists place (length c.push.new.self) now.0 more was.3,
      subst (λ (nodes : List NodeResult). AreFedBy nodes lists) (sym c.in_ok-push.ensures.ok) (fed_snoc c.loop-node.nodes lists node (get_or lists place []) was.4 room refl fed),
    )
