-- A read is a step, and leaves its job held.
use Rattle.std.proofs.Common.{Bool, List, None, Option, Some, [], ap, false, length, refl, subst, sym, true, ◌+◌, ◌++◌, ◌∙◌, ◌≡◌, ◌∷◌, ℕ}
use Rattle.std.proofs.lemmas.List.{length-append}
use Rattle.std.proofs.lemmas.Bool.{false≢true}
use Rattle.std.specs.Option.{is_some, option_and_then, option_map}
use Rattle.node_core.proofs.Claims.{changed_at}
use Rattle.node_core.proofs.Held_jobs.{next_is, tables_are_fit}
use Rattle.node_core.proofs.Journal.{core_of, quiet, stays, steps, world_noted}
use Rattle.node_core.proofs.Rowed.{rows_keep}
use Rattle.node_core.proofs.Settled.{height_is}
use Rattle.node_core.specs.Answers.{got_as, got_of}
use Rattle.node_core.specs.Core.{IsHeld, Steps}
use Rattle.node_core.specs.Hands.{IsAnswered}
use Rattle.node_core.specs.InHand.{InHand, IsNextRead, WantsRead, job_in, with_read}
use Rattle.node_core.specs.Kept.{IsNode, IsRowOf, IsStageOf, Kept, told_in, world_in}
use Rattle.node_core.specs.declared.jobs.JobRow.{JobRow}
use Rattle.node_core.specs.declared.jobs.Stage.TheVariants as stage
use Rattle.node_core.specs.declared.jobs.Stage.{Stage}
use Rattle.node_model.specs.Events.{after, hit_since, next_read, read_on, record_read, settled_in}
use Rattle.node_model.specs.History.{snapshot, time_at}
use Rattle.node_model.specs.Journals.{world}
use Rattle.node_model.specs.Steps.{Gone, May, Reply, ToRead, doomed_or_rows, reads, reads_unless, reply}
use Rattle.node_model.specs.World.{Job, World, is_held, job_at}
use Rattle.node_model.specs.declared.journal.Entry.{Entry}
use Rattle.node_model.specs.declared.journal.Event.TheVariants as event
use Rattle.proc_run.proofs.Driven.{order_of}
use Rattle.proc_run.specs.Remains.{StandInOrder}
use Rattle.proc_syntax.specs.Declaring.{tables_of}
use Rattle.proc_syntax.specs.declared.tree.App.{App}
use Rattle.rel_base.specs.Among.{rows_in}
use Rattle.rel_base.specs.Late.{least_hit}
use Rattle.rel_base.specs.Tables.{Stamped, place_of, tables_at, writes_between}
use Rattle.rel_base.specs.declared.access.Place.{Place}
use Rattle.rel_base.specs.declared.access.Read.{Read}
use Rattle.rel_base.specs.declared.access.Seen.{Seen}
use Rattle.rel_base.specs.declared.schema.TableDef.{TableDef}

-- a read leaves the transaction and the status of its job
read_tx : (job : Job) (kept : Kept) (found : Option Read) → (record_read kept.app (world_in kept).sealed job found).tx ≡ job.tx
read_tx job kept None = refl
read_tx job kept (Some read) = refl

read_status : (job : Job) (kept : Kept) (found : Option Read) → (record_read kept.app (world_in kept).sealed job found).status ≡ job.status
read_status job kept None = refl
read_status job kept (Some read) = refl

-- the row of a held job tells nothing but that
held_stage : (tables : List TableDef) (told : List (List ℕ)) (now : Stage) (job other : Job) → is_held job.status ≡ true → other.status ≡ job.status → IsStageOf tables told now job → IsStageOf tables told now other
held_stage tables told stage.Waiting job other held same is = absurd (false≢true (sym (ap is_held is) ∙ held))
held_stage tables told (stage.Held actor) job other held same is = same ∙ is
held_stage tables told (stage.Done recorded) job other held same is = absurd (false≢true (sym (ap is_held is.0) ∙ held))
held_stage tables told stage.Taken job other held same is = absurd (false≢true (sym (ap is_held is.0) ∙ held))
held_stage tables told stage.Dropped job other held same is = absurd (false≢true (sym (ap is_held is) ∙ held))

-- a read with its rows is answered
pub read_answered : (work : InHand) (read : Read) (rows : List Seen) (cut : Bool) (hit : Option Place) → WantsRead work → IsAnswered (got_of hit) work (with_read work read rows cut)
read_answered work read rows cut None wants = record { job = refl; actor = refl; gone = wants.0; asks = refl; reads = length-append work.told.fed (record { read = read; rows = rows } ∷ []) }
read_answered work read rows cut (Some place) wants = record { job = refl; actor = refl; gone = wants.0; asks = refl; reads = length-append work.told.fed (record { read = read; rows = rows } ∷ []) }

module _ (kept : Kept) (node : IsNode kept) (work : InHand) (held : IsHeld (core_of kept) work) where
  -- the id is settled
  pub read_gone : (number : ℕ) → settled_in work.told.tx.id (world_in kept).sealed ≡ Some number → Steps (core_of kept) work.actor (ToRead work.job) (Gone number) (core_of kept)
  read_gone number is =
      stays kept node work.actor (ToRead work.job) (Gone number)
      (ap (reads kept.app (world_in kept) work.job) held.holds.stands ∙ ap (reads_unless kept.app (world_in kept) work.job (job_in work)) is)

  -- the rows of a read stand in order
  pub read_order : (read : Read) (rows : List Seen) → rows ≡ rows_in kept.tables read (tables_at work.told.tx.height kept.history) → StandInOrder (tables_of work.told.app) read rows
  read_order read rows are =
      subst (λ (app : App). StandInOrder (tables_of app) read rows) (sym held.app)
      (order_of (tables_of kept.app) read rows (tables_at work.told.tx.height kept.history) (tables_are_fit kept node work held) (are ∙ ap (λ (tables : List TableDef). rows_in tables read (tables_at work.told.tx.height kept.history)) node.sound.declared))

  module _ (read : Read) (next : IsNextRead work.told read) (whole : work.cut ≡ false) (live : settled_in work.told.tx.id (world_in kept).sealed ≡ None) (hit : Option Place) (upto : ℕ) (at : upto ≡ length kept.results)
      (hits : hit ≡ option_map place_of (least_hit kept.tables read (writes_between work.told.tx.height upto kept.history))) where
    comes : next_read kept.app (world_in kept).sealed (job_in work) ≡ Some read
    comes = next_is kept node work held read next

    hit_is : hit ≡ option_map place_of (hit_since kept.app (world_in kept).sealed work.told.tx read)
    hit_is =
        hits
        ∙ ap (λ (tables : List TableDef). option_map place_of (least_hit tables read (writes_between work.told.tx.height upto kept.history))) node.sound.declared
        ∙ ap (λ n. option_map place_of (least_hit (tables_of kept.app) read (writes_between work.told.tx.height n kept.history))) (at ∙ height_is kept node)
        ∙ ap (λ (history : List Stamped). option_map place_of (least_hit (tables_of kept.app) read (writes_between work.told.tx.height (length (world_in kept).sealed) history))) node.holds.writes

    may : May kept.app (world_in kept) work.actor (ToRead work.job)
    may = (job_in work, held.holds, whole, ap is_some comes)

    told : reply kept.app (world_in kept) (ToRead work.job) ≡ (got_as (got_of hit), Some (event.Read work.job))
    told =
        ap (reads kept.app (world_in kept) work.job) held.holds.stands
        ∙ ap (reads_unless kept.app (world_in kept) work.job (job_in work)) live
        ∙ ap asked_as comes
        ∙ by (hit_since kept.app (world_in kept).sealed work.told.tx read)
        ∙ ap told_as (sym hit_is)
      where
        asked_as : Option Read → Reply
        asked_as found = (doomed_or_rows (option_and_then (hit_since kept.app (world_in kept).sealed work.told.tx) found), Some (event.Read work.job))

        hit_as : Option Stamped → Reply
        hit_as found = (doomed_or_rows found, Some (event.Read work.job))

        told_as : Option Place → Reply
        told_as found = (got_as (got_of found), Some (event.Read work.job))

        by : (found : Option Stamped) → hit_as found ≡ told_as (option_map place_of found)
        by None = refl
        by (Some stamped) = refl

    module _ (journal' : List Entry) (noted : journal' ≡ kept.journal ++ record { actor = work.actor; event = event.Read work.job } ∷ []) where
      pub read_kept : IsNode (record kept { journal = journal' })
      read_kept =
          quiet kept node work.actor (ToRead work.job) (got_as (got_of hit)) (event.Read work.job) may told journal' noted refl refl kept.rows
          (rows_keep (tables_of kept.app) (told_in kept.work) kept.rows (world_in kept).jobs work.job (read_on kept.app (world_in kept).sealed) (job_in work) held.holds.stands keeps node.rows)
        where
          keeps : (row : JobRow) → IsRowOf (tables_of kept.app) (told_in kept.work) row (job_in work) → IsRowOf (tables_of kept.app) (told_in kept.work) row (read_on kept.app (world_in kept).sealed (job_in work))
          keeps row is = record {
            tx = is.tx ∙ sym (read_tx (job_in work) kept (next_read kept.app (world_in kept).sealed (job_in work)));
            stage = held_stage (tables_of kept.app) (told_in kept.work) row.stage (job_in work) (read_on kept.app (world_in kept).sealed (job_in work)) refl
                (read_status (job_in work) kept (next_read kept.app (world_in kept).sealed (job_in work))) is.stage;
          }

      pub read_steps : Steps (core_of kept) work.actor (ToRead work.job) (got_as (got_of hit)) (record { app = kept.app; journal = journal' })
      read_steps = steps kept node work.actor (ToRead work.job) (got_as (got_of hit)) (event.Read work.job) may told journal' noted

      -- its job has the read with its rows, and is cut where the read is hit
      pub read_held : (work' : InHand) (rows : List Seen) → rows ≡ rows_in kept.tables read (tables_at work.told.tx.height kept.history) → work' ≡ with_read work read rows (is_some hit) → IsHeld (record { app = kept.app; journal = journal' }) work'
      read_held work' rows are is = subst (λ (w : InHand). IsHeld (record { app = kept.app; journal = journal' }) w) (sym is) (record {
        app = held.app;
        holds = record {
          stands = ap (λ (w : World). job_at w.jobs work.job) after_it
              ∙ changed_at (world_in kept).jobs work.job (read_on kept.app (world_in kept).sealed) (job_in work) held.holds.stands
              ∙ ap (λ (found : Option Read). Some (record_read kept.app (world_in kept).sealed (job_in work) found)) comes
              ∙ ap (λ (seen : List Seen). Some (with_rows seen (is_some (hit_since kept.app (world_in kept).sealed work.told.tx read)))) (sym rows_are)
              ∙ ap (λ b. Some (with_rows rows b)) (sym (ap is_some hit_is ∙ some_place (hit_since kept.app (world_in kept).sealed work.told.tx read)));
          held = refl;
        };
        time = held.time ∙ sym (ap (λ (w : World). time_at work.told.tx.height w.sealed) after_it);
      })
        where
          after_it : world kept.app journal' ≡ after kept.app (world_in kept) (record { actor = work.actor; event = event.Read work.job })
          after_it = world_noted kept node work.actor (ToRead work.job) (got_as (got_of hit)) (event.Read work.job) may told journal' noted

          with_rows : List Seen → Bool → Job
          with_rows seen b = job_in (with_read work read seen b)

          rows_are : rows ≡ rows_in (tables_of kept.app) read (snapshot work.told.tx.height (world_in kept).sealed)
          rows_are = are ∙ ap (λ (tables : List TableDef). rows_in tables read (tables_at work.told.tx.height kept.history)) node.sound.declared
              ∙ ap (λ (history : List Stamped). rows_in (tables_of kept.app) read (tables_at work.told.tx.height history)) node.holds.writes

          some_place : (found : Option Stamped) → is_some (option_map place_of found) ≡ is_some found
          some_place None = refl
          some_place (Some stamped) = refl
