use Rattle.std.proofs.Common.{ap, rules, w64, ◌∙◌, ◌≡◌}
use Rattle.std.proofs.lemmas.Int.{to_z-of_z}
use mir.Val.{SFits}
use Rattle.block_work.proofs.Resulting.{codable, lent_codable, order_few, result_is, same_parts}
use Rattle.block_work.proofs.result.result_of.Goals as goal
use Rattle.block_work.specs.Block.{sealed_of}
use Rattle.node_model.specs.BlockCode.{digest_of}
use Rattle.rw_graph.specs.Graph.{has_edge, positions_of}

pub digest_of_lent-requires : goal.digest_of_lent-requires
digest_of_lent-requires c =
    let work = c.args.work.now in
    let outcomes : c.as_slice.result.now ≡ work.outcomes.items = search rules in
    let list : c.as_slice-2.result.now ≡ c.in_ok-order.order = search rules in
    let committed : c.as_slice-3.result.now ≡ work.committed.items = search rules in
    lent_codable work.outcomes.items c.as_slice.result.now c.in_ok-order.order c.as_slice-2.result.now work.committed.items c.as_slice-3.result.now outcomes list committed
    (codable work.outcomes.items work.committed.items c.in_ok-order.order c.requires.limits
    (order_few (has_edge work.edges) (positions_of work.edges) c.in_ok-order.order c.in_ok-order.ensures.order c.requires.few))

pub returns : goal.returns
returns c =
    let work = c.args.work.now in
    let fits : SFits w64 work.time = search rules in
    let time = to_z-of_z w64 work.time fits in
    let outcomes : c.as_slice.result.now ≡ work.outcomes.items = search rules in
    let list : c.as_slice-2.result.now ≡ c.in_ok-order.order = search rules in
    let committed : c.as_slice-3.result.now ≡ work.committed.items = search rules in
    let parts = same_parts work.number work.time _ work.outcomes.items c.as_slice.result.now c.in_ok-order.order c.as_slice-2.result.now work.committed.items c.as_slice-3.result.now time outcomes list committed in
    λ tables keeps. c.new.ensures
    ∙ result_is tables c.args.previous.now (sealed_of work) _ c.in_ok-outcomes.outcomes work.edges c.in_ok-order.order c.in_ok-digest.digest
    time (search rules) c.requires.limits.rise keeps c.in_ok-order.ensures.order (c.in_ok-digest.ensures ∙ ap (digest_of c.args.previous.now) parts)
