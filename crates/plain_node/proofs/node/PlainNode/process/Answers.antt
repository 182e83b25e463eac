use Rattle.std.proofs.Common.{IfSome, [], arith, length, subst, sym, ◌++◌, ◌≤◌, ◌∷◌}
use Rattle.block_work.proofs.Places.{as_before}
use Rattle.block_work.proofs.Replayed.{results_run_again}
use Rattle.block_work.specs.Ids.{Forgets, place_of_id}
use Rattle.node_model.specs.Fold.{fold}
use Rattle.plain_node.proofs.Holding.{holds_next}
use Rattle.plain_node.proofs.node.PlainNode.process.Goals as goal

pub returns-in-Ok-clause-holds : goal.returns-in-Ok-clause-holds
returns-in-Ok-clause-holds g c = λ blocks holds.
    let app = c.args.self.now.chain.app.value.app in
    let next = c.in-Ok.ensures.holds (fold app blocks) holds.chain holds.places in
    holds_next app blocks c.args.block.now (g.V.Versions.history c.add_block.new.chain.versions) c.add_block.new.ids c.add_block.new.chain.blocks next.0 next.1

pub returns-in-Ok-clause-replays : goal.returns-in-Ok-clause-replays
returns-in-Ok-clause-replays g c = λ blocks numbered holds.
    results_run_again c.args.self.now.chain.app.value.app (blocks ++ c.args.block.now ∷ []) (g.V.Versions.history c.add_block.new.chain.versions) c.add_block.new.chain.blocks numbered
    (returns-in-Ok-clause-holds g c blocks holds).chain

pub returns-in-Err-clause-same_ids : goal.returns-in-Err-clause-same_ids
returns-in-Err-clause-same_ids g c =
    let back = c.in-Err.ensures.back in
    let next = c.requires.next in
    as_before c.args.self.now.ids c.add_block.new.ids c.forget.new.self (length c.args.self.now.chain.blocks) c.args.block.now.number c.in-Err.work.outcomes.items back.1 c.requires.ids (omega (arith, next))
    (subst (λ number. Forgets c.add_block.new.ids c.forget.new.self number c.in-Err.work.outcomes.items) back.0
    (subst (Forgets c.add_block.new.ids c.forget.new.self c.in-Err.work.number) c.as_slice.ensures.value c.forget.ensures))

pub returns-in-Err-clause-ids : goal.returns-in-Err-clause-ids
returns-in-Err-clause-ids g c = λ id.
    subst (λ found. IfSome found (λ place. place.block ≤ length c.add_block.new.chain.blocks)) (sym (returns-in-Err-clause-same_ids g c id))
    (subst (λ blocks. IfSome (place_of_id c.args.self.now.ids id) (λ place. place.block ≤ length blocks)) (sym c.in-Err.ensures.same_blocks) (c.requires.ids id))
