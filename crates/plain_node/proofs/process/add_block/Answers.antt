use Rattle.std.proofs.Common.{[], length, rules, subst, sym, ◌++◌, ◌∙◌, ◌∷◌, ◌≡◌}
use Rattle.block_work.proofs.Answering.{on_ok_then}
use Rattle.block_work.proofs.Places.{places_sealed, upto_more}
use Rattle.block_work.specs.Block.{sealed_of, work_of}
use Rattle.block_work.specs.Chain.{HoldsChain}
use Rattle.block_work.specs.Ids.{AreUpTo, HasFirstPlaces}
use Rattle.node_model.specs.Fold.{no_work, work_through}
use Rattle.plain_node.proofs.Holding.{sealed_is}
use Rattle.plain_node.proofs.process.add_block.Goals as goal
use Rattle.proc_syntax.specs.Declaring.{tables_of}

pub decide_all-requires-clause-consistent : goal.decide_all-requires-clause-consistent
decide_all-requires-clause-consistent g c = c.new-work.ensures.consistent _

pub returns-clause-upto : goal.returns-clause-upto
returns-clause-upto g c =
    on_ok_then c.seal.result _ _ c.seal.ensures.count (λ count. λ upto.
    subst (λ height. AreUpTo height c.decide_all.new.ids) (sym count)
    (upto_more c.args.ids.now c.decide_all.new.ids (length c.args.chain.now.blocks) c.new-work.result.number c.decide_all.new.work.outcomes.items c.decide_all.ensures.added upto
    (c.new-work.ensures.number ∙ c.requires.next)))

pub returns-clause-holds : goal.returns-clause-holds
returns-clause-holds g c =
    on_ok_then c.seal.result _ _ c.seal.ensures.holds (λ holds. λ sealed is has.
    let app = c.args.chain.now.app.value.app in
    let done = c.in_default.ensures.work sealed is has in
    let number = c.decide_all.ensures.number ∙ c.new-work.ensures.number in
    let whole : work_of c.decide_all.new.work ≡ work_through app sealed c.args.block.now.number no_work c.args.block.now.txs =
    done.0 ∙ (λ i. work_through app sealed (c.new-work.ensures.number i) (c.new-work.ensures.work i) (c.as_slice.ensures i)) in
    let block = sealed_is app sealed c.args.block.now c.decide_all.new.work number (c.decide_all.ensures.time ∙ c.new-work.ensures.time) whole in (
      subst (λ last. HoldsChain (tables_of app) (sealed ++ last ∷ []) (g.V.Versions.history c.seal.new.self.versions) c.seal.new.self.blocks) block (holds sealed is),
      subst (λ last. HasFirstPlaces c.decide_all.new.ids (sealed ++ last ∷ []) 0 []) block
          (places_sealed c.decide_all.new.ids sealed (sealed_of c.decide_all.new.work) 0
          (subst (λ n. HasFirstPlaces c.decide_all.new.ids sealed n c.decide_all.new.work.outcomes.items) (sym c.decide_all.ensures.number) done.1)),
    ))

pub returns-in-Err-clause-upto : goal.returns-in-Err-clause-upto
returns-in-Err-clause-upto g c = search rules

pub returns-in-Err-clause-holds : goal.returns-in-Err-clause-holds
returns-in-Err-clause-holds g c = search rules
