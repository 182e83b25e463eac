use Rattle.std.proofs.Common.{[], true, length, rules, subst, sym, ◌++◌, ◌∙◌, ◌≡◌, ◌∷◌}
use Rattle.block_work.specs.Ids.{place_of_id}
use Rattle.node_core.proofs.Ending.{back_free, release_kept}
use Rattle.node_core.proofs.Held_jobs.{has_spare, held_there, room_after}
use Rattle.node_core.proofs.Settled.{settled_is}
use Rattle.node_core.specs.Core.{Core, IsHeld}
use Rattle.node_core.specs.Ends.{stage_given_back}
use Rattle.node_core.specs.Kept.{up_to}
use Rattle.node_core.specs.Rows.{put_row, row_at, status_of}
use Rattle.node_model.specs.World.{is_held}
use Rattle.std.specs.Option.{IsSomeAnd}
use Rattle.node_model.specs.declared.journal.Event.TheVariants.{Release}
use Rattle.node_core.proofs.node.NodeCore.give_up.Goals as goal

pub push_reserved-requires : goal.push_reserved-requires
push_reserved-requires g c =
    let held = subst (λ (core : Core). IsHeld core c.args.work.now) (sym c.self.view_is) c.requires.held in
    has_spare _ c.self.invariant.0 c.args.work.now held _ _ c.self.invariant.1

pub give_back-requires : goal.give_back-requires
give_back-requires g c =
    let held = subst (λ (core : Core). IsHeld core c.args.work.now) (sym c.self.view_is) c.requires.held in
    record { held = subst (λ n. IsSomeAnd (row_at c.self.inside.jobs n) (λ row. is_held (status_of row.stage) ≡ true)) (sym c.job-job.ensures) (held_there _ c.self.invariant.0 c.args.work.now held) }

pub invariant_of-self : goal.invariant_of-self
invariant_of-self g c =
    let s = c.self.inside in
    let held = subst (λ (core : Core). IsHeld core c.args.work.now) (sym c.self.view_is) c.requires.held in
    let at : c.height-height.result ≡ length s.chain.blocks = search rules in
    let found : c.settled_in-settled.result ≡ up_to c.height-height.result (place_of_id s.ids c.args.work.now.told.tx.id) = search rules in
    let is = found ∙ settled_is _ c.self.invariant.0 c.height-height.result c.args.work.now.told.tx.id at in
    let noted : c.push_reserved.new.self.items ≡ s.journal.items ++ record { actor = c.args.work.now.actor; event = Release c.args.work.now.job } ∷ [] = search rules in
    let rows : c.give_back.new.jobs ≡ put_row s.jobs c.args.work.now.job (stage_given_back c.settled_in-settled.result) = search rules in (
      release_kept _ c.self.invariant.0 c.args.work.now held c.settled_in-settled.result is c.push_reserved.new.self.items noted c.give_back.new.jobs rows,
      room_after _ c.self.invariant.0 c.args.work.now held (stage_given_back c.settled_in-settled.result) (back_free c.settled_in-settled.result) c.give_back.new.jobs _ _ _ _ rows c.self.invariant.1 c.push_reserved.ensures.len c.push_reserved.ensures.capacity,
    )
