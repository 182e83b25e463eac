use Rattle.std.proofs.Common.{[], true, length, rules, subst, sym, ◌++◌, ◌∙◌, ◌≡◌, ◌∷◌}
use Rattle.block_work.specs.Ids.{place_of_id}
use Rattle.node_core.proofs.Ending.{end_free, finish_kept, finish_steps}
use Rattle.node_core.proofs.Held_jobs.{has_spare, held_there, room_after}
use Rattle.node_core.proofs.Settled.{settled_is}
use Rattle.node_core.specs.Answers.{finished_as, finished_of}
use Rattle.node_core.specs.Core.{Core, IsHeld, Steps}
use Rattle.node_core.specs.Ends.{stage_at_end}
use Rattle.node_core.specs.Kept.{up_to}
use Rattle.node_core.specs.Rows.{put_row, row_at, status_of}
use Rattle.node_model.specs.World.{is_held}
use Rattle.std.specs.Option.{IsSomeAnd}
use Rattle.node_model.specs.Steps.{ToFinish}
use Rattle.node_model.specs.declared.journal.Event.TheVariants.{Finish}
use Rattle.node_core.proofs.node.NodeCore.finish.Goals as goal

pub push_reserved-requires : goal.push_reserved-requires
push_reserved-requires g c =
    let held = subst (λ (core : Core). IsHeld core c.args.work) (sym c.self.view_is) c.requires.held in
    has_spare _ c.self.invariant.0 c.args.work held _ _ c.self.invariant.1

pub end_job-requires : goal.end_job-requires
end_job-requires g c =
    let held = subst (λ (core : Core). IsHeld core c.args.work) (sym c.self.view_is) c.requires.held in
    record { held = subst (λ n. IsSomeAnd (row_at c.self.inside.jobs n) (λ row. is_held (status_of row.stage) ≡ true)) (sym c.job-job.ensures) (held_there _ c.self.invariant.0 c.args.work held) }

pub invariant_of-self : goal.invariant_of-self
invariant_of-self g c =
    let s = c.self.inside in
    let held = subst (λ (core : Core). IsHeld core c.args.work) (sym c.self.view_is) c.requires.held in
    let at : c.height-height.result ≡ length s.chain.blocks = search rules in
    let found : c.settled_in-settled.result ≡ up_to c.height-height.result (place_of_id s.ids c.args.work.told.tx.id) = search rules in
    let is = found ∙ settled_is _ c.self.invariant.0 c.height-height.result c.args.work.told.tx.id at in
    let noted : c.push_reserved.new.self.items ≡ s.journal.items ++ record { actor = c.args.work.actor; event = Finish c.args.work.job } ∷ [] = search rules in
    let rows : c.end_job.new.jobs ≡ put_row s.jobs c.args.work.job (stage_at_end c.settled_in-settled.result c.into_record-recorded.result) = search rules in (
      finish_kept _ c.self.invariant.0 c.args.work held c.settled_in-settled.result is c.push_reserved.new.self.items c.requires.ready c.into_record-recorded.result c.into_record-recorded.ensures.record
          c.into_record-recorded.ensures.all noted c.end_job.new.jobs rows,
      room_after _ c.self.invariant.0 c.args.work held (stage_at_end c.settled_in-settled.result c.into_record-recorded.result) (end_free c.settled_in-settled.result c.into_record-recorded.result) c.end_job.new.jobs _ _ _ _ rows
          c.self.invariant.1 c.push_reserved.ensures.len c.push_reserved.ensures.capacity,
    )

pub returns-clause-step : goal.returns-clause-step
returns-clause-step g c =
    let s = c.self.inside in
    let held = subst (λ (core : Core). IsHeld core c.args.work) (sym c.self.view_is) c.requires.held in
    let at : c.height-height.result ≡ length s.chain.blocks = search rules in
    let found : c.settled_in-settled.result ≡ up_to c.height-height.result (place_of_id s.ids c.args.work.told.tx.id) = search rules in
    let is = found ∙ settled_is _ c.self.invariant.0 c.height-height.result c.args.work.told.tx.id at in
    let noted : c.push_reserved.new.self.items ≡ s.journal.items ++ record { actor = c.args.work.actor; event = Finish c.args.work.job } ∷ [] = search rules in
    let answer : c.end_job.result ≡ finished_of c.settled_in-settled.result = search rules in
    subst (λ a. Steps c.args.self.now c.args.work.actor (ToFinish c.args.work.job) (finished_as a) (record { app = s.chain.app.value.app; journal = c.push_reserved.new.self.items })) (sym answer)
    (subst (λ (core : Core). Steps core c.args.work.actor (ToFinish c.args.work.job) (finished_as (finished_of c.settled_in-settled.result)) (record { app = s.chain.app.value.app; journal = c.push_reserved.new.self.items })) c.self.view_is
    (finish_steps _ c.self.invariant.0 c.args.work held c.settled_in-settled.result is c.push_reserved.new.self.items c.requires.ready c.into_record-recorded.result c.into_record-recorded.ensures.record
    c.into_record-recorded.ensures.all noted))
