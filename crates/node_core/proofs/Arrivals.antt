-- An arrival is a step.
use Rattle.std.proofs.Common.{Bool, List, None, Option, Some, [], ap, cond, false, length, refl, subst, sym, true, ◌+◌, ◌++◌, ◌||◌, ◌∙◌, ◌≡◌, ◌∷◌, ℕ}
use Rattle.std.specs.Option.{is_some, option_map}
use Rattle.block_work.specs.Ids.{place_of_id}
use Rattle.node_core.proofs.Journal.{core_of, quiet, stays, steps}
use Rattle.node_core.proofs.Rowed.{has_job, rows_more, same_length}
use Rattle.node_core.proofs.Settled.{settled_is}
use Rattle.node_core.specs.Answers.{arrived_as}
use Rattle.node_core.specs.Core.{Arrives, Steps}
use Rattle.node_core.specs.Kept.{AreRowsOf, IsNode, Kept, shown_work, told_in, up_to, world_in}
use Rattle.node_core.specs.Known.{arrival, is_in_block}
use Rattle.node_core.specs.Rows.{new_row, shown_all}
use Rattle.node_core.specs.declared.answers.Arrived.TheVariants as arrived
use Rattle.node_core.specs.declared.answers.Arrived.{Arrived}
use Rattle.node_core.specs.declared.jobs.JobRow.{JobRow}
use Rattle.node_core.specs.declared.delivered_block.DeliveredBlock.{DeliveredBlock}
use Rattle.node_model.specs.Events.{is_settled}
use Rattle.node_model.specs.Steps.{Invalid, Known, Queued, Reply, Shared, ToArrive, is_in_work, is_known, reply}
use Rattle.node_model.specs.World.{job_of, new_job, number_of_job}
use Rattle.node_model.specs.declared.journal.Entry.{Entry}
use Rattle.node_model.specs.declared.journal.Event.TheVariants.{Arrive}
use Rattle.proc_syntax.specs.Call.{call_fault}
use Rattle.proc_syntax.specs.Declaring.{tables_of}
use Rattle.proc_syntax.specs.declared.call.Tx.{Tx}

-- an answer to an arrival, as a reply
abbrev reply_of : Arrived → ℕ → Shared Tx → Reply
reply_of arrived.Queued number shared = (Queued, Some (Arrive number shared))
reply_of arrived.Known number shared = (Known, None)
reply_of arrived.Invalid number shared = (Invalid, None)

module _ (kept : Kept) (node : IsNode kept) (height : ℕ) (at : height ≡ length kept.results) where
  in_work : (id : List ℕ) → is_in_block id kept.work ≡ is_in_work id (world_in kept).work
  in_work id = by kept.work ∙ ap (is_in_work id) node.work
    where
      by : (work : Option DeliveredBlock) → is_in_block id work ≡ is_in_work id (option_map shown_work work)
      by None = refl
      by (Some working) = refl

  known : (tx : Tx) → (is_some (number_of_job tx (shown_all kept.rows)) || (is_some (up_to height (place_of_id kept.ids tx.id)) || is_in_block tx.id kept.work)) ≡ is_known (world_in kept) tx
  known tx =
      ap (λ b. b || (is_some (up_to height (place_of_id kept.ids tx.id)) || is_in_block tx.id kept.work)) (has_job (tables_of kept.app) (told_in kept.work) tx kept.rows (world_in kept).jobs node.rows)
      ∙ ap (λ (found : Option ℕ). is_some (job_of tx (world_in kept).jobs) || (is_some found || is_in_block tx.id kept.work)) (settled_is kept node height tx.id at)
      ∙ ap (λ b. is_some (job_of tx (world_in kept).jobs) || (is_settled tx.id (world_in kept).sealed || b)) (in_work tx.id)

  arrives_so : (shared : Shared Tx) (tx : Tx) → shared.value ≡ tx → reply kept.app (world_in kept) (ToArrive shared) ≡ reply_of (arrival kept.app kept.rows kept.ids height kept.work tx) (length kept.rows + 1) shared
  arrives_so shared tx same =
      ap (λ (t : Tx). cond {A = Reply} (is_some (call_fault kept.app t)) (Invalid, None) (cond (is_known (world_in kept) t) (Known, None) (Queued, Some (Arrive (length (world_in kept).jobs + 1) shared)))) same
      ∙ ap (λ b. cond {A = Reply} (is_some (call_fault kept.app tx)) (Invalid, None) (cond b (Known, None) (Queued, Some (Arrive (length (world_in kept).jobs + 1) shared)))) (sym (known tx))
      ∙ ap (λ n. cond {A = Reply} (is_some (call_fault kept.app tx)) (Invalid, None)
      (cond (is_some (number_of_job tx (shown_all kept.rows)) || (is_some (up_to height (place_of_id kept.ids tx.id)) || is_in_block tx.id kept.work)) (Known, None) (Queued, Some (Arrive (n + 1) shared))))
      (sym (same_length (tables_of kept.app) (told_in kept.work) kept.rows (world_in kept).jobs node.rows))
      ∙ by (is_some (call_fault kept.app tx)) (is_some (number_of_job tx (shown_all kept.rows)) || (is_some (up_to height (place_of_id kept.ids tx.id)) || is_in_block tx.id kept.work))
    where
      by : (a b : Bool) → cond {A = Reply} a (Invalid, None) (cond b (Known, None) (Queued, Some (Arrive (length kept.rows + 1) shared))) ≡ reply_of (cond a arrived.Invalid (cond b arrived.Known arrived.Queued)) (length kept.rows + 1) shared
      by true b = refl
      by false true = refl
      by false false = refl

  -- nothing is noted
  pub arrive_stays : (actor : ℕ) (tx : Tx) (shared : Shared Tx) (got : Arrived) → shared.value ≡ tx → got ≡ arrival kept.app kept.rows kept.ids height kept.work tx → (got ≡ arrived.Queued → ⊥)
      → Arrives (core_of kept) actor tx (arrived_as got) (core_of kept)
  arrive_stays actor tx shared got same is other = record { shared = shared; same = same; step = by got other (arrives_so shared tx same ∙ ap (λ a. reply_of a (length kept.rows + 1) shared) (sym is)) }
    where
      by : (got : Arrived) → (got ≡ arrived.Queued → ⊥) → reply kept.app (world_in kept) (ToArrive shared) ≡ reply_of got (length kept.rows + 1) shared → Steps (core_of kept) actor (ToArrive shared) (arrived_as got) (core_of kept)
      by arrived.Queued other e = absurd (other refl)
      by arrived.Known other e = stays kept node actor (ToArrive shared) Known e
      by arrived.Invalid other e = stays kept node actor (ToArrive shared) Invalid e

  module _ (actor : ℕ) (tx : Tx) (shared noted : Shared Tx) (job : ℕ) (queued : arrived.Queued ≡ arrival kept.app kept.rows kept.ids height kept.work tx) (same : shared.value ≡ tx) (also : noted.value ≡ tx)
      (next : job ≡ length kept.rows + 1) (journal' : List Entry) (more : journal' ≡ kept.journal ++ record { actor = actor; event = Arrive job noted } ∷ []) where
    told : reply kept.app (world_in kept) (ToArrive noted) ≡ (Queued, Some (Arrive job noted))
    told = arrives_so noted tx also ∙ ap (λ a. reply_of a (length kept.rows + 1) noted) (sym queued) ∙ ap (λ n. (Queued, Some (Arrive n noted))) (sym next)

    -- it waits as a new job
    pub arrive_kept : (rows' : List JobRow) → rows' ≡ kept.rows ++ new_row shared ∷ [] → IsNode (record kept { rows = rows'; journal = journal' })
    arrive_kept rows' are =
        quiet kept node actor (ToArrive noted) Queued (Arrive job noted) tt told journal' more refl refl rows'
        (subst (λ rs. AreRowsOf (tables_of kept.app) (told_in kept.work) rs ((world_in kept).jobs ++ new_job noted.value ∷ [])) (sym are) (rows_more (tables_of kept.app) (told_in kept.work) kept.rows (world_in kept).jobs shared noted.value (same ∙ sym also) node.rows))

    pub arrive_steps : Arrives (core_of kept) actor tx Queued (record { app = kept.app; journal = journal' })
    arrive_steps = record { shared = noted; same = also; step = steps kept node actor (ToArrive noted) Queued (Arrive job noted) tt told journal' more }
