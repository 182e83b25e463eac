-- A delivery is a step.
use Rattle.std.proofs.Common.{List, None, Option, Some, [], ap, append-nil, cond, false, length, map, refl, subst, sym, ◌+◌, ◌++◌, ◌==◌, ◌||◌, ◌∙◌, ◌≡◌, ◌∷◌, ℕ}
use Rattle.std.proofs.lemmas.Bool.{eq-eqb}
use Rattle.std.proofs.lemmas.List.Folds.{list_any-append}
use Rattle.std.specs.List.{list_any}
use Rattle.std.specs.Option.{is_some, option_map}
use Rattle.std.specs.Str.{bytes_eq}
use Rattle.block_work.proofs.Places.{is_known}
use Rattle.block_work.specs.Block.{work_of}
use Rattle.block_work.specs.Causes.{early_by}
use Rattle.block_work.specs.Chain.{HoldsChain}
use Rattle.block_work.specs.Ids.{HasFirstPlaces}
use Rattle.node_core.proofs.Fresh_jobs.{fresh_is, grow}
use Rattle.node_core.proofs.Journal.{core_of, legal_noted, stays, steps, world_noted}
use Rattle.node_core.proofs.Rowed.{has_job}
use Rattle.node_core.proofs.Settled.{height_is}
use Rattle.node_core.specs.Core.{Delivers}
use Rattle.node_core.specs.Fresh.{fresh_in, needs_none}
use Rattle.node_core.specs.Kept.{AreRowsOf, IsNode, IsWorkingOn, Kept, number_of_work, outcomes_of, shown_work, told_in, world_in}
use Rattle.node_core.specs.Rows.{new_row, shown_all}
use Rattle.node_core.specs.declared.jobs.JobRow.{JobRow}
use Rattle.node_core.specs.declared.delivered_block.DeliveredBlock.{DeliveredBlock}
use Rattle.node_model.specs.Decide.{early}
use Rattle.node_model.specs.Events.{after, needs_no_job, with_jobs}
use Rattle.node_model.specs.Fold.{Work, no_work}
use Rattle.node_model.specs.History.{ids_of, ids_told}
use Rattle.node_model.specs.Journals.{world}
use Rattle.node_model.specs.Steps.{InWork, NotNext, Reply, Shared, Taken, ToDeliver, delivers, reply}
use Rattle.node_model.specs.World.{Job, World, new_job, number_of_job}
use Rattle.node_model.specs.declared.journal.Entry.{Entry}
use Rattle.node_model.specs.declared.journal.Event.TheVariants.{Deliver}
use Rattle.node_model.specs.declared.result.Told.{Told}
use Rattle.proc_syntax.specs.Declaring.{tables_of}
use Rattle.proc_syntax.specs.declared.call.Block.{Block}
use Rattle.proc_syntax.specs.declared.call.Tx.{Tx}
use Rattle.rel_base.specs.declared.schema.TableDef.{TableDef}

-- ---- new rows

new_rows : (tables : List TableDef) (told : List (List ℕ)) (shared : List (Shared Tx)) → AreRowsOf tables told (map new_row shared) (map new_job (map (λ (one : Shared Tx). one.value) shared))
new_rows tables told [] = tt
new_rows tables told (one ∷ shared) = (record { tx = refl; stage = refl }, new_rows tables told shared)

rows_add : (tables : List TableDef) (told : List (List ℕ)) (shared : List (Shared Tx)) (rows : List JobRow) (jobs : List Job) → AreRowsOf tables told rows jobs
    → AreRowsOf tables told (rows ++ map new_row shared) (jobs ++ map new_job (map (λ (one : Shared Tx). one.value) shared))
rows_add tables told shared [] [] are = new_rows tables told shared
rows_add tables told shared [] (job ∷ jobs) are = absurd are
rows_add tables told shared (row ∷ rows) [] are = absurd are
rows_add tables told shared (row ∷ rows) (job ∷ jobs) are = (are.0, rows_add tables told shared rows jobs are.1)

module _ (kept : Kept) (node : IsNode kept) (actor : ℕ) where
  -- a block is in work
  pub deliver_in_work : (working : DeliveredBlock) (shared : Shared Block) → kept.work ≡ Some working → Delivers (core_of kept) actor shared.value (InWork working.block.value.number) (core_of kept)
  deliver_in_work working shared here = record {
    shared = shared;
    same = refl;
    step = stays kept node actor (ToDeliver shared) (InWork working.block.value.number) (ap (delivers (world_in kept) shared) (sym node.work ∙ ap (option_map shown_work) here));
  }

  idle : kept.work ≡ None → (world_in kept).work ≡ None
  idle none = sym node.work ∙ ap (option_map shown_work) none

  -- the block is not the next
  pub deliver_not_next : (shared : Shared Block) (expected : ℕ) → kept.work ≡ None → expected ≡ length kept.results + 1 → (shared.value.number == expected) ≡ false → Delivers (core_of kept) actor shared.value (NotNext expected) (core_of kept)
  deliver_not_next shared expected none next other =
      let so : expected ≡ length (world_in kept).sealed + 1 = next ∙ ap (λ n. n + 1) (height_is kept node) in
      record {
        shared = shared;
        same = refl;
        step = stays kept node actor (ToDeliver shared) (NotNext expected)
            (ap (delivers (world_in kept) shared) (idle none) ∙ ap answer_as (sym so) ∙ ap (λ b. cond {A = Reply} b (Taken, Some (Deliver shared)) (NotNext expected, None)) other);
      }
    where
      answer_as : ℕ → Reply
      answer_as n = cond {A = Reply} (shared.value.number == n) (Taken, Some (Deliver shared)) (NotNext n, None)

  module _ (none : kept.work ≡ None) where
    first_places : HasFirstPlaces kept.ids (world_in kept).sealed 0 []
    first_places = subst (λ (w : Option DeliveredBlock). HasFirstPlaces kept.ids (world_in kept).sealed (number_of_work w) (outcomes_of w)) none node.ids

    needs_is : (number : ℕ) (before : List Tx) (tx : Tx) → needs_none kept.app kept.ids kept.rows number before tx
        ≡ needs_no_job kept.app (ids_of (world_in kept).sealed ++ map (λ (t : Tx). t.id) before) number (world_in kept).jobs tx
    needs_is number before tx =
        ap (λ b. is_some (early_by (b || list_any (bytes_eq tx.id) (map (λ (t : Tx). t.id) before)) kept.app number tx) || is_some (number_of_job tx (shown_all kept.rows)))
        (is_known kept.ids (world_in kept).sealed 0 [] tx.id first_places ∙ ap (list_any (bytes_eq tx.id)) (append-nil (ids_of (world_in kept).sealed)))
        ∙ ap (λ b. is_some (early_by b kept.app number tx) || is_some (number_of_job tx (shown_all kept.rows))) (sym (list_any-append (bytes_eq tx.id) (ids_of (world_in kept).sealed) (map (λ (t : Tx). t.id) before)))
        ∙ ap (λ b. is_some (early kept.app (ids_of (world_in kept).sealed ++ map (λ (t : Tx). t.id) before) number tx) || b) (has_job (tables_of kept.app) (told_in kept.work) tx kept.rows (world_in kept).jobs node.rows)

    module _ (zero_actor : actor ≡ 0) (shared noted : Shared Block) (same : shared.value ≡ noted.value) (next : noted.value.number ≡ length kept.results + 1) (journal' : List Entry)
        (more : journal' ≡ kept.journal ++ record { actor = actor; event = Deliver noted } ∷ []) where
      told : reply kept.app (world_in kept) (ToDeliver noted) ≡ (Taken, Some (Deliver noted))
      told =
          ap (delivers (world_in kept) noted) (idle none)
          ∙ ap (λ b. cond {A = Reply} b (Taken, Some (Deliver noted)) (NotNext (length (world_in kept).sealed + 1), None))
          (eq-eqb noted.value.number (length (world_in kept).sealed + 1) (next ∙ ap (λ n. n + 1) (height_is kept node)))

      pub deliver_steps : Delivers (core_of kept) actor noted.value Taken (record { app = kept.app; journal = journal' })
      deliver_steps = record { shared = noted; same = refl; step = steps kept node actor (ToDeliver noted) Taken (Deliver noted) zero_actor told journal' more }

      jobs_are : (fresh : List (Shared Tx)) → map (λ (one : Shared Tx). one.value) fresh ≡ fresh_in kept.app kept.ids kept.rows noted.value.number noted.value.txs 0 noted.value.txs
          → (world_in kept).jobs ++ map new_job (map (λ (one : Shared Tx). one.value) fresh) ≡ with_jobs kept.app (ids_of (world_in kept).sealed) noted.value.number noted.value.txs (world_in kept).jobs
      jobs_are fresh are =
          ap (λ (txs : List Tx). (world_in kept).jobs ++ map new_job txs)
          (are ∙ fresh_is kept.app (ids_of (world_in kept).sealed) noted.value.number (world_in kept).jobs kept.ids kept.rows (needs_is noted.value.number) noted.value.txs [] noted.value.txs refl)
          ∙ sym (grow kept.app (ids_of (world_in kept).sealed) noted.value.number (world_in kept).jobs [] [] noted.value.txs (λ id e. e))
          ∙ ap (λ known. with_jobs kept.app known noted.value.number noted.value.txs ((world_in kept).jobs ++ [])) (append-nil (ids_of (world_in kept).sealed))
          ∙ ap (with_jobs kept.app (ids_of (world_in kept).sealed) noted.value.number noted.value.txs) (append-nil (world_in kept).jobs)

      pub deliver_kept : (working : DeliveredBlock) (fresh : List (Shared Tx)) (rows' : List JobRow) → working.block.value ≡ noted.value → work_of working.done ≡ no_work → IsWorkingOn (tables_of kept.app) working
          → map (λ (one : Shared Tx). one.value) fresh ≡ fresh_in kept.app kept.ids kept.rows noted.value.number noted.value.txs 0 noted.value.txs → rows' ≡ kept.rows ++ map new_row fresh
          → IsNode (record kept { work = Some working; rows = rows'; journal = journal' })
      deliver_kept working fresh rows' block_is begun fits are rows_are = record {
        legal = legal_noted kept node actor (ToDeliver noted) Taken (Deliver noted) zero_actor told journal' more;
        sound = node.sound;
        holds = subst (λ (w : World). HoldsChain (tables_of kept.app) w.sealed kept.history kept.results) (sym after_it) node.holds;
        ids = subst (λ (w : World). HasFirstPlaces kept.ids w.sealed working.done.number working.done.outcomes.items) (sym after_it)
            (subst (λ (told : List Told). HasFirstPlaces kept.ids (world_in kept).sealed working.done.number told) (sym none_told) first_places);
        work = ap (λ (b : Block). Some (record { block = b; done = work_of working.done })) block_is ∙ ap (λ (d : Work). Some (record { block = noted.value; done = d })) begun ∙ sym (ap (λ (w : World). w.work) after_it);
        working = fits;
        rows = subst (λ (w : World). AreRowsOf (tables_of kept.app) (ids_told working.done.outcomes.items) rows' w.jobs) (sym after_it)
            (subst (λ (told : List Told). AreRowsOf (tables_of kept.app) (ids_told told) rows' (with_jobs kept.app (ids_of (world_in kept).sealed) noted.value.number noted.value.txs (world_in kept).jobs)) (sym none_told)
            (subst (λ (rs : List JobRow). AreRowsOf (tables_of kept.app) [] rs (with_jobs kept.app (ids_of (world_in kept).sealed) noted.value.number noted.value.txs (world_in kept).jobs)) (sym rows_are)
            (subst (λ (jobs : List Job). AreRowsOf (tables_of kept.app) [] (kept.rows ++ map new_row fresh) jobs) (jobs_are fresh are)
            (rows_add (tables_of kept.app) [] fresh kept.rows (world_in kept).jobs
            (subst (λ (w : Option DeliveredBlock). AreRowsOf (tables_of kept.app) (told_in w) kept.rows (world_in kept).jobs) none node.rows)))));
      }
        where
          after_it : world kept.app journal' ≡ after kept.app (world_in kept) (record { actor = actor; event = Deliver noted })
          after_it = world_noted kept node actor (ToDeliver noted) Taken (Deliver noted) zero_actor told journal' more

          none_told : working.done.outcomes.items ≡ []
          none_told = ap (λ (w : Work). w.outcomes) begun
