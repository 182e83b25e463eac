-- The end of a held job, and its release, are steps.
use Rattle.std.proofs.Common.{Bool, List, None, Option, Some, [], ap, cond, false, inl, inr, refl, subst, sym, true, ◌++◌, ◌∙◌, ◌≡◌, ◌⊎◌, ◌∷◌, ℕ}
use Rattle.std.specs.Option.{is_some}
use Rattle.node_core.proofs.Going as going
use Rattle.node_core.proofs.Held_jobs.{agrees, front_fits, run_fits, run_is, tables}
use Rattle.node_core.proofs.Journal.{core_of, quiet, steps}
use Rattle.node_core.proofs.Rowed.{rows_put}
use Rattle.node_core.specs.Answers.{finished_as, finished_of}
use Rattle.node_core.specs.Core.{IsHeld, Steps}
use Rattle.node_core.specs.Ends.{stage_at_end, stage_given_back}
use Rattle.node_core.specs.InHand.{AreAllReads, InHand, IsReady, IsRecordOf, job_in, so_far}
use Rattle.node_core.specs.Kept.{AreRowsOf, IsNode, IsStageOf, Kept, record_of, told_in, world_in}
use Rattle.node_core.specs.Rows.{put_row, status_of}
use Rattle.node_core.specs.declared.jobs.Record.{Record}
use Rattle.node_core.specs.declared.jobs.JobRow.{JobRow}
use Rattle.node_model.specs.Decide.{run_at}
use Rattle.block_work.specs.Causes.{RunFits}
use Rattle.node_model.specs.Events.{dropped, ended, finished, next_read, released, settled_in}
use Rattle.node_model.specs.Steps.{May, Released, Reply, ToFinish, ToRelease, finishes, gone_or_kept, reply}
use Rattle.node_model.specs.World as model
use Rattle.node_model.specs.World.{Job, change_job, is_held, new_job}
use Rattle.node_model.specs.declared.journal.Entry.{Entry}
use Rattle.node_model.specs.declared.journal.Event.TheVariants.{Finish, Release}
use Rattle.proc_syntax.specs.Declaring.{tables_of}
use Rattle.proc_syntax.specs.declared.run.Ran.{Ran}
use Rattle.rel_base.specs.declared.access.Made.{Made}

pub back_free : (settled : Option ℕ) → is_held (status_of (stage_given_back settled)) ≡ false
back_free None = refl
back_free (Some number) = refl

pub end_free : (settled : Option ℕ) (recorded : Record) → is_held (status_of (stage_at_end settled recorded)) ≡ false
end_free None recorded = refl
end_free (Some number) recorded = refl

module _ (kept : Kept) (node : IsNode kept) (work : InHand) (held : IsHeld (core_of kept) work) (settled : Option ℕ) (is : settled ≡ settled_in work.told.tx.id (world_in kept).sealed) (journal' : List Entry) where
  -- ---- release

  back_is : (told : List (List ℕ)) → IsStageOf (tables_of kept.app) told (stage_given_back settled) (released (world_in kept).sealed (job_in work))
  back_is told = by settled is
    where
      by : (found : Option ℕ) → found ≡ settled_in work.told.tx.id (world_in kept).sealed → IsStageOf (tables_of kept.app) told (stage_given_back found) (released (world_in kept).sealed (job_in work))
      by None e = sym (ap (λ (o : Option ℕ). (cond (is_some o) (dropped (job_in work)) (new_job work.told.tx)).status) e)
      by (Some number) e = sym (ap (λ (o : Option ℕ). (cond (is_some o) (dropped (job_in work)) (new_job work.told.tx)).status) e)

  same_tx_back : (released (world_in kept).sealed (job_in work)).tx ≡ work.told.tx
  same_tx_back = by (is_some (settled_in work.told.tx.id (world_in kept).sealed))
    where
      by : (b : Bool) → (cond b (dropped (job_in work)) (new_job work.told.tx)).tx ≡ work.told.tx
      by true = refl
      by false = refl

  module _ (noted : journal' ≡ kept.journal ++ record { actor = work.actor; event = Release work.job } ∷ []) where
    pub release_kept : (rows' : List JobRow) → rows' ≡ put_row kept.rows work.job (stage_given_back settled) → IsNode (record kept { rows = rows'; journal = journal' })
    release_kept rows' are =
        quiet kept node work.actor (ToRelease work.job) Released (Release work.job) (job_in work, held.holds) refl journal' noted refl refl rows'
        (subst (λ rs. AreRowsOf (tables_of kept.app) (told_in kept.work) rs (change_job (released (world_in kept).sealed) (world_in kept).jobs work.job)) (sym are)
        (rows_put (tables_of kept.app) (told_in kept.work) kept.rows (world_in kept).jobs work.job (stage_given_back settled) (released (world_in kept).sealed) (job_in work) held.holds.stands same_tx_back
        (back_is (told_in kept.work)) node.rows))

    pub release_steps : Steps (core_of kept) work.actor (ToRelease work.job) Released (record { app = kept.app; journal = journal' })
    release_steps = steps kept node work.actor (ToRelease work.job) Released (Release work.job) (job_in work, held.holds) refl journal' noted

  -- ---- finish

  module _ (ready : IsReady work) (recorded : Record) (rec : IsRecordOf work recorded) (all : work.cut ≡ false → AreAllReads work.told) where
    none_next : work.cut ≡ false → next_read kept.app (world_in kept).sealed (job_in work) ≡ None
    none_next whole = going.none_next (core_of kept) node.legal work held (all whole)

    may : May kept.app (world_in kept) work.actor (ToFinish work.job)
    may = (job_in work, held.holds, by work.cut refl)
      where
        by : (b : Bool) → work.cut ≡ b → (work.cut ≡ true) ⊎ (next_read kept.app (world_in kept).sealed (job_in work) ≡ None)
        by true e = inl e
        by false e = inr (none_next e)

    told : reply kept.app (world_in kept) (ToFinish work.job) ≡ (finished_as (finished_of settled), Some (Finish work.job))
    told = ap (finishes (world_in kept) work.job) held.holds.stands ∙ ap found_as (sym is) ∙ by settled
      where
        found_as : Option ℕ → Reply
        found_as found = (gone_or_kept found, Some (Finish work.job))

        told_as : Option ℕ → Reply
        told_as found = (finished_as (finished_of found), Some (Finish work.job))

        by : (found : Option ℕ) → found_as found ≡ told_as found
        by None = refl
        by (Some number) = refl

    -- what is recorded is what the definitions record
    recorded_is : record_of recorded ≡ ended (job_in work).recorded (run_at kept.app (world_in kept).sealed work.told.tx)
    recorded_is = by work.cut refl
      where
        by : (b : Bool) → work.cut ≡ b → record_of recorded ≡ ended (job_in work).recorded (run_at kept.app (world_in kept).sealed work.told.tx)
        by true e =
            ap (λ (ran : Ran). record { ran = ran; cut = recorded.cut }) (rec.if_cut e) ∙ ap (λ b. record { ran = so_far work.told.fed; cut = b }) rec.cut
            ∙ sym (ap (λ b. cond b (job_in work).recorded (record { ran = record { reads = work.told.fed; writes = (run_at kept.app (world_in kept).sealed work.told.tx).writes; ending = (run_at kept.app (world_in kept).sealed work.told.tx).ending }; cut = work.cut })) e)
        by false e =
            ap (λ (ran : Ran). record { ran = ran; cut = recorded.cut }) (rec.if_whole e (tables kept node work held) (agrees kept node work held) ∙ run_is kept node work held)
            ∙ ap (λ (reads : List Made). record { ran = record { reads = reads; writes = (run_at kept.app (world_in kept).sealed work.told.tx).writes; ending = (run_at kept.app (world_in kept).sealed work.told.tx).ending }; cut = recorded.cut })
            (sym (ap (λ (ran : Ran). ran.reads) (run_is kept node work held)) ∙ all e (tables kept node work held) (agrees kept node work held))
            ∙ ap (λ b. record { ran = record { reads = work.told.fed; writes = (run_at kept.app (world_in kept).sealed work.told.tx).writes; ending = (run_at kept.app (world_in kept).sealed work.told.tx).ending }; cut = b }) rec.cut
            ∙ sym (ap (λ b. cond b (job_in work).recorded (record { ran = record { reads = work.told.fed; writes = (run_at kept.app (world_in kept).sealed work.told.tx).writes; ending = (run_at kept.app (world_in kept).sealed work.told.tx).ending }; cut = work.cut })) e)

    recorded_fits : RunFits (tables_of kept.app) recorded.ran
    recorded_fits = by work.cut refl
      where
        by : (b : Bool) → work.cut ≡ b → RunFits (tables_of kept.app) recorded.ran
        by true e = subst (RunFits (tables_of kept.app)) (sym (rec.if_cut e)) (front_fits kept node work held)
        by false e = subst (RunFits (tables_of kept.app)) (sym (rec.if_whole e (tables kept node work held) (agrees kept node work held) ∙ run_is kept node work held)) (run_fits kept node work held)

    end_is : (ids : List (List ℕ)) → IsStageOf (tables_of kept.app) ids (stage_at_end settled recorded) (finished kept.app (world_in kept).sealed (job_in work))
    end_is ids = by settled is
      where
        whole : Job
        whole = record { tx = work.told.tx; status = model.Done; recorded = ended (job_in work).recorded (run_at kept.app (world_in kept).sealed work.told.tx) }

        by : (found : Option ℕ) → found ≡ settled_in work.told.tx.id (world_in kept).sealed → IsStageOf (tables_of kept.app) ids (stage_at_end found recorded) (finished kept.app (world_in kept).sealed (job_in work))
        by None e = subst (λ (job : Job). IsStageOf (tables_of kept.app) ids (stage_at_end None recorded) job) (ap (λ (o : Option ℕ). cond (is_some o) (dropped (job_in work)) whole) e) (refl, recorded_is, recorded_fits)
        by (Some number) e = sym (ap (λ (o : Option ℕ). (cond (is_some o) (dropped (job_in work)) whole).status) e)

    same_tx_end : (finished kept.app (world_in kept).sealed (job_in work)).tx ≡ work.told.tx
    same_tx_end = by (is_some (settled_in work.told.tx.id (world_in kept).sealed))
      where
        by : (b : Bool) → (cond b (dropped (job_in work)) (record { tx = work.told.tx; status = model.Done; recorded = ended (job_in work).recorded (run_at kept.app (world_in kept).sealed work.told.tx) })).tx ≡ work.told.tx
        by true = refl
        by false = refl

    module _ (noted : journal' ≡ kept.journal ++ record { actor = work.actor; event = Finish work.job } ∷ []) where
      pub finish_kept : (rows' : List JobRow) → rows' ≡ put_row kept.rows work.job (stage_at_end settled recorded) → IsNode (record kept { rows = rows'; journal = journal' })
      finish_kept rows' are =
          quiet kept node work.actor (ToFinish work.job) (finished_as (finished_of settled)) (Finish work.job) may told journal' noted refl refl rows'
          (subst (λ rs. AreRowsOf (tables_of kept.app) (told_in kept.work) rs (change_job (finished kept.app (world_in kept).sealed) (world_in kept).jobs work.job)) (sym are)
          (rows_put (tables_of kept.app) (told_in kept.work) kept.rows (world_in kept).jobs work.job (stage_at_end settled recorded) (finished kept.app (world_in kept).sealed) (job_in work) held.holds.stands same_tx_end
          (end_is (told_in kept.work)) node.rows))

      pub finish_steps : Steps (core_of kept) work.actor (ToFinish work.job) (finished_as (finished_of settled)) (record { app = kept.app; journal = journal' })
      finish_steps = steps kept node work.actor (ToFinish work.job) (finished_as (finished_of settled)) (Finish work.job) may told journal' noted
