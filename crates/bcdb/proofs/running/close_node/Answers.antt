use Rattle.std.proofs.Common.{ap, arith, rules, [], ◌∙◌, ◌≡◌, ◌≤◌, ◌∷◌}
use Rattle.bcdb.proofs.Processed.{all_held}
use Rattle.bcdb.proofs.running.close_node.Goals as goal
use Rattle.bcdb.specs.Folds.{all_blocks}
use Rattle.node_model.specs.Fold.{node_result}
use Rattle.node_model.specs.declared.result.NodeResult.{NodeResult}

pub close-requires : goal.close-requires
close-requires c = record { store = c.requires.1.fits }

pub returns : goal.returns
returns c = λ blocks has.
    let node = c.args.node in
    let low : c.args.taken ≤ all_blocks = omega (arith, c.ranges.taken.fits) in
    let made : c.in_ok-result.result ≡ node_result node.chain.app.value.app blocks =
    c.in_ok-result.ensures.report blocks (all_held blocks c.args.taken node.chain.app.value.app node.chain.versions.0 node.chain.versions.1.0 node.ids node.chain.blocks low has) in
    let pushed : c.push.new.self ≡ c.in_ok-result.result ∷ [] = search rules in
    pushed ∙ ap (λ (result : NodeResult). result ∷ []) made
