use Rattle.std.proofs.Common.{[], ap, drop, get_or, length, rules, subst, sym, take, ◌++◌, ◌<◌, ◌≡◌, ◌∙◌, ◌∷◌}
use Rattle.std.proofs.lemmas.List.{map_more}
use Rattle.bcdb.proofs.HistoryParts.{next_part}
use Rattle.bcdb.proofs.extract.heads_of.Goals as goal
use Rattle.bcdb.specs.FewWrites.{AreFew, HasFewWrites}
use Rattle.merkle_proof.specs.Blocks.{heads_of}
use Rattle.merkle_proof.specs.Proofs.{head_of}
use Rattle.node_model.specs.declared.result.BlockResult.{BlockResult}

pub head_from-requires : goal.head_from-requires
head_from-requires g c =
    let history = g.V.Versions.history c.args.versions.now in
    let blocks = c.args.blocks.now in
    let index = c.loop-block.block-index in
    let block = c.block-item.result in
    let within : index < length blocks = search rules in
    let is : block ≡ get_or blocks index block = search rules in
    let next = next_part blocks index c.number-number.result (drop c.loop-block.from history) (drop c.first_from-from.result history) history block c.requires.numbers c.requires.history
    within is c.number-number.ensures c.first_from-from.ensures c.loop-block.invariant.1 in
    subst AreFew (sym next.writes) (subst HasFewWrites (sym is) (c.requires.few index block within))

pub loop-block-preserved : goal.loop-block-preserved
loop-block-preserved g c =
    let history = g.V.Versions.history c.args.versions.now in
    let blocks = c.args.blocks.now in
    let index = c.loop-block.block-index in
    let block = c.block-item.result in
    let within : index < length blocks = search rules in
    let is : block ≡ get_or blocks index block = search rules in
    let next = next_part blocks index c.number-number.result (drop c.loop-block.from history) (drop c.first_from-from.result history) history block c.requires.numbers c.requires.history
    within is c.number-number.ensures c.first_from-from.ensures c.loop-block.invariant.1 in
    let pushed : c.push.new.self ≡ c.loop-block.heads ++ c.in_ok-head.head ∷ [] = search rules in (
      pushed ∙ ap (λ head. c.loop-block.heads ++ head ∷ []) (c.in_ok-head.ensures ∙ ap head_of next.writes)
          ∙ ap (λ heads. heads ++ head_of block.writes ∷ []) c.loop-block.invariant.0
          ∙ ap (λ (b : BlockResult). heads_of (take index blocks) ++ head_of b.writes ∷ []) is
          ∙ sym (map_more (λ (b : BlockResult). head_of b.writes) blocks index block within),
      next.later,
    )
