-- After a commit the node keeps what its journal comes to.
use Rattle.std.proofs.Common.{List, None, Option, Some, [], ap, arith, false, length, refl, subst, sym, true, ◌+◌, ◌++◌, ◌-◌, ◌<◌, ◌∙◌, ◌≡◌, ◌≤◌, ◌||◌, ◌∷◌, ℕ}
use Rattle.std.proofs.lemmas.List.Folds.{list_any-append}
use Rattle.std.proofs.lemmas.List.{map-append}
use Rattle.std.proofs.lemmas.Option.{slice_get_within}
use Rattle.std.proofs.lemmas.Slice.Eq.{bytes_eq-Decides}
use Rattle.std.specs.List.{list_any}
use Rattle.std.specs.Str.{bytes_eq}
use Rattle.std.specs.Option.{option_or}
use Rattle.block_work.proofs.Places.{places_more}
use Rattle.block_work.specs.Block.{IsConsistent, IsSameWork, work_of}
use Rattle.block_work.specs.Chain.{HoldsChain}
use Rattle.block_work.specs.Ids.{HasFirstPlaces, SamePlaces}
use Rattle.block_work.specs.declared.ids.IdIndex.{IdIndex}
use Rattle.node_core.proofs.Claims.{early_is}
use Rattle.node_core.proofs.Commits.{commit_idle, commit_so, reply_of, rows_take, rows_told, told_here}
use Rattle.node_core.proofs.Due_jobs.{IsByJob, IsEarly, IsJobOf, is_done, its_job, its_stage, ran_is, row_tx}
use Rattle.node_core.proofs.Journal.{core_of, facts, legal_noted, stays, steps, world_noted}
use Rattle.node_core.proofs.Settled.{first_places, inside, number_next, works_on}
use Rattle.node_core.proofs.Table.{count_put}
use Rattle.node_core.specs.Core.{Steps}
use Rattle.node_core.specs.Deciding.{IsDecided, outcome_by}
use Rattle.node_core.specs.Due.{due_by}
use Rattle.node_core.specs.Kept.{AreRowsOf, IsNode, Kept, shown_work, told_in, world_in}
use Rattle.node_core.specs.Rows.{count_held, one_held, put_row}
use Rattle.node_core.specs.declared.due.Due.TheVariants as stand
use Rattle.node_core.specs.declared.due.Due.{Due}
use Rattle.node_core.specs.declared.jobs.JobRow.{JobRow}
use Rattle.node_core.specs.declared.jobs.Stage.TheVariants as stage
use Rattle.node_core.specs.declared.delivered_block.DeliveredBlock.{DeliveredBlock}
use Rattle.node_model.specs.Decide.{by_run, decide_by, or_committed}
use Rattle.node_model.specs.Events.{after, commit_next, decide_due, recorded_ran}
use Rattle.node_model.specs.Fold.{Work}
use Rattle.node_model.specs.History.{history_of, ids_told}
use Rattle.node_model.specs.Journals.{world}
use Rattle.node_model.specs.Steps.{Decided, NoBlock, NotReady, Shared, ToCommit, reply}
use Rattle.node_model.specs.World.{Job, World, due, job_of}
use Rattle.node_model.specs.declared.journal.Entry.{Entry}
use Rattle.node_model.specs.declared.journal.Event.TheVariants as event
use Rattle.node_model.specs.declared.outcome.Outcome.{Outcome}
use Rattle.node_model.specs.declared.result.Told.{Told}
use Rattle.proc_syntax.specs.Declaring.{tables_of}
use Rattle.proc_syntax.specs.declared.call.Block.{Block}
use Rattle.proc_syntax.specs.declared.call.Tx.{Tx}
use Rattle.proc_syntax.specs.declared.run.Ran.{Ran}
use Rattle.rel_base.specs.Tables.{Stamped, writes_between}
use Rattle.rel_base.specs.declared.access.Place.{Place}
use Rattle.rel_base.proofs.Bits.{or_true}

abbrev at_pos : ℕ → ℕ → Place
at_pos number pos = record { block = number; pos = pos }

module _ (kept : Kept) (node : IsNode kept) (working : DeliveredBlock) (here : kept.work ≡ Some working) where
  -- ---- the block in work

  -- so many are decided
  pub few_decided : length working.done.outcomes.items ≤ 1024
  few_decided =
      let within : length working.done.outcomes.items ≤ length working.block.value.txs = ((facts kept node).work_fits (shown_work working) (inside kept node working here)).within in
      let few : length working.block.value.txs ≤ 1024 = working.block.value.few in
      omega (arith, within, few)

  pub fewer : (tx : Tx) → due (shown_work working) ≡ Some tx → length working.done.outcomes.items < 1024
  fewer tx next =
      let within : length working.done.outcomes.items < length working.block.value.txs = slice_get_within working.block.value.txs (length working.done.outcomes.items) tx next in
      let few : length working.block.value.txs ≤ 1024 = working.block.value.few in
      omega (arith, within, few)

  pub above : 0 < working.done.number
  above = let next = number_next kept node working here in omega (arith, next)

  -- ---- the answer

  pub replies : (pos : ℕ) (stands : Due) → pos ≡ length working.done.outcomes.items + 1 → stands ≡ due_by kept.app kept.ids working kept.rows → reply kept.app (world_in kept) ToCommit ≡ reply_of stands pos working.block.value.number
  replies pos stands at is = commit_so kept node working here pos at ∙ ap (λ (d : Due). reply_of d pos working.block.value.number) (sym is)

  pub not_ready : (actor pos : ℕ) (holder : Option ℕ) → pos ≡ length working.done.outcomes.items + 1 → stand.Waits holder ≡ due_by kept.app kept.ids working kept.rows
      → Steps (core_of kept) actor ToCommit (NotReady pos holder) (core_of kept)
  not_ready actor pos holder at is = stays kept node actor ToCommit (NotReady pos holder) (replies pos (stand.Waits holder) at is)

  -- ---- where memory is wanting

  same_node : (working' : DeliveredBlock) (ids' : IdIndex) → working'.block ≡ working.block → IsSameWork working.done working'.done → IsConsistent (tables_of kept.app) working'.done → SamePlaces kept.ids ids'
      → IsNode (record kept { ids = ids'; work = Some working' })
  same_node working' ids' block same consistent places = record {
    legal = node.legal;
    sound = node.sound;
    holds = node.holds;
    ids = λ id. places id ∙ subst (λ (told : List Told). HasFirstPlaces kept.ids (world_in kept).sealed working'.done.number told) (sym same.outcomes)
        (subst (λ n. HasFirstPlaces kept.ids (world_in kept).sealed n working.done.outcomes.items) (sym same.number) (first_places kept node working here)) id;
    work = ap (λ (b : Shared Block). Some (record { block = b.value; done = work_of working'.done })) block
        ∙ ap (λ (told : List Told). Some (record { block = working.block.value; done = record { outcomes = told; committed = working'.done.committed.items } })) same.outcomes
        ∙ ap (λ committed. Some (record { block = working.block.value; done = record { outcomes = working.done.outcomes.items; committed = committed } })) same.committed
        ∙ sym (inside kept node working here);
    working = record {
      number = same.number ∙ (works_on kept node working here).number ∙ sym (ap (λ (b : Shared Block). b.value.number) block);
      time = same.time ∙ (works_on kept node working here).time ∙ sym (ap (λ (b : Shared Block). b.value.time) block);
      consistent = consistent;
    };
    rows = subst (λ told. AreRowsOf (tables_of kept.app) told kept.rows (world_in kept).jobs) (told_here kept node working here ∙ sym (ap ids_told same.outcomes)) node.rows;
  }

  pub commit_same : (working' : DeliveredBlock) (ids' : IdIndex) → working'.block ≡ working.block → IsSameWork working.done working'.done → IsConsistent (tables_of kept.app) working'.done → SamePlaces kept.ids ids'
      → (rows' : List JobRow) → rows' ≡ kept.rows → (journal' : List Entry) → journal' ≡ kept.journal → IsNode (record kept { ids = ids'; work = Some working'; rows = rows'; journal = journal' })
  commit_same working' ids' block same consistent places rows' same_rows journal' same_journal =
      subst (λ (rows : List JobRow). IsNode (record kept { ids = ids'; work = Some working'; rows = rows; journal = journal' })) (sym same_rows)
      (subst (λ (journal : List Entry). IsNode (record kept { ids = ids'; work = Some working'; journal = journal })) (sym same_journal) (same_node working' ids' block same consistent places))

  -- ---- the step

  -- what is recorded of the run of a transaction, and what it is decided by that
  abbrev ran_of : Tx → Ran
  ran_of tx = recorded_ran (job_of tx (world_in kept).jobs)

  abbrev decided_so : Tx → Outcome
  decided_so tx = decide_by kept.app (world_in kept).sealed working.block.value.number working.done.outcomes.items working.done.committed.items tx (ran_of tx)

  early_is_so : (cause : Outcome) (early : IsEarly kept.app kept.ids working cause) → decided_so early.tx ≡ cause
  early_is_so cause early =
      ap (λ (o : Option Outcome). or_committed (option_or o (by_run kept.app.exact (tables_of kept.app) (writes_between early.tx.height (working.block.value.number - 1) (history_of (world_in kept).sealed)) working.done.committed.items (ran_of early.tx))))
      (sym (early_is kept node working early.tx here) ∙ early.early)

  job_is_so : (number : ℕ) (found : IsByJob kept.app kept.ids working kept.rows number)
      → decided_so found.tx ≡ outcome_by kept.app.exact (tables_of kept.app) kept.history working.done kept.rows (is_done kept node working number found)
  job_is_so number found =
      ap (λ (o : Option Outcome). or_committed (option_or o (by_run kept.app.exact (tables_of kept.app) (writes_between found.tx.height (working.block.value.number - 1) (history_of (world_in kept).sealed)) working.done.committed.items (ran_of found.tx))))
      (sym (early_is kept node working found.tx here) ∙ found.late)
      ∙ ap (λ (ran : Ran). or_committed (by_run kept.app.exact (tables_of kept.app) (writes_between found.tx.height (working.block.value.number - 1) (history_of (world_in kept).sealed)) working.done.committed.items ran)) (ran_is kept node working number found)
      ∙ ap (λ (tx : Tx). or_committed (by_run kept.app.exact (tables_of kept.app) (writes_between tx.height (working.block.value.number - 1) (history_of (world_in kept).sealed)) working.done.committed.items found.recorded.ran)) (sym (row_tx kept node working number found))
      ∙ ap (λ n. or_committed (by_run kept.app.exact (tables_of kept.app) (writes_between found.row.tx.value.height (n - 1) (history_of (world_in kept).sealed)) working.done.committed.items found.recorded.ran)) (sym (works_on kept node working here).number)
      ∙ ap (λ (history : List Stamped). or_committed (by_run kept.app.exact (tables_of kept.app) (writes_between found.row.tx.value.height (working.done.number - 1) history) working.done.committed.items found.recorded.ran)) (sym node.holds.writes)

  module _ (actor pos : ℕ) (zero_actor : actor ≡ 0) (told : reply kept.app (world_in kept) ToCommit ≡ (Decided pos, Some (event.Commit pos))) (journal' : List Entry)
      (more : journal' ≡ kept.journal ++ record { actor = actor; event = event.Commit pos } ∷ []) where
    pub commit_steps : Steps (core_of kept) actor ToCommit (Decided pos) (record { app = kept.app; journal = journal' })
    commit_steps = steps kept node actor ToCommit (Decided pos) (event.Commit pos) zero_actor told journal' more

    after_it : world kept.app journal' ≡ after kept.app (world_in kept) (record { actor = actor; event = event.Commit pos })
    after_it = world_noted kept node actor ToCommit (Decided pos) (event.Commit pos) zero_actor told journal' more

    module _ (tx : Tx) (working' : DeliveredBlock) (ids' : IdIndex) (rows' : List JobRow) (decided : IsDecided working working' kept.ids ids' tx (ran_of tx) (decided_so tx)) (consistent : IsConsistent (tables_of kept.app) working'.done) where
      abbrev told_one : Told
      told_one = record { id = tx.id; outcome = decided_so tx }

      turned : length working.done.outcomes.items + 1 ≡ 1 + length working.done.outcomes.items
      turned = omega arith

      outcomes_are : working'.done.outcomes.items ≡ working.done.outcomes.items ++ told_one ∷ []
      outcomes_are = ap (λ (w : Work). w.outcomes) decided.work

      told_more : told_in kept.work ++ tx.id ∷ [] ≡ ids_told working'.done.outcomes.items
      told_more =
          ap (λ told. told ++ tx.id ∷ []) (told_here kept node working here) ∙ sym (map-append (λ (t : Told). t.id) working.done.outcomes.items (told_one ∷ [])) ∙ sym (ap ids_told outcomes_are)

      commit_kept : AreRowsOf (tables_of kept.app) (told_in kept.work ++ tx.id ∷ []) rows' (world_in kept).jobs → IsNode (record kept { ids = ids'; work = Some working'; rows = rows'; journal = journal' })
      commit_kept are = record {
        legal = legal_noted kept node actor ToCommit (Decided pos) (event.Commit pos) zero_actor told journal' more;
        sound = node.sound;
        holds = subst (λ (w : World). HoldsChain (tables_of kept.app) w.sealed kept.history kept.results) (sym after_it) node.holds;
        ids = subst (λ (w : World). HasFirstPlaces ids' w.sealed working'.done.number working'.done.outcomes.items) (sym after_it)
            (subst (λ n. HasFirstPlaces ids' (world_in kept).sealed n working'.done.outcomes.items) (sym decided.number)
            (subst (λ (told : List Told). HasFirstPlaces ids' (world_in kept).sealed working.done.number told) (sym outcomes_are)
            (places_more kept.ids ids' (world_in kept).sealed working.done.number working.done.outcomes.items told_one (record { block = working.done.number; pos = length working.done.outcomes.items + 1 }) (first_places kept node working here)
            (ap (at_pos working.done.number) turned) decided.place)));
        work = ap (λ (b : Shared Block). Some (record { block = b.value; done = work_of working'.done })) decided.block
            ∙ ap (λ (d : Work). Some (record { block = working.block.value; done = d })) decided.work
            ∙ sym (ap (λ (w : World). w.work) after_it ∙ ap (commit_next kept.app (world_in kept).sealed (world_in kept).jobs) (inside kept node working here)
            ∙ ap (λ (found : Option Tx). Some (decide_due kept.app (world_in kept).sealed (world_in kept).jobs (shown_work working) found)) decided.first);
        working = record {
          number = decided.number ∙ (works_on kept node working here).number ∙ sym (ap (λ (b : Shared Block). b.value.number) decided.block);
          time = decided.time ∙ (works_on kept node working here).time ∙ sym (ap (λ (b : Shared Block). b.value.time) decided.block);
          consistent = consistent;
        };
        rows = subst (λ (w : World). AreRowsOf (tables_of kept.app) (ids_told working'.done.outcomes.items) rows' w.jobs) (sym after_it)
            (subst (λ told. AreRowsOf (tables_of kept.app) told rows' (world_in kept).jobs) told_more are);
      }

    -- without a run
    pub early_kept : (cause : Outcome) (early : IsEarly kept.app kept.ids working cause) (working' : DeliveredBlock) (ids' : IdIndex) → ((ran : Ran) → IsDecided working working' kept.ids ids' early.tx ran cause)
        → IsConsistent (tables_of kept.app) working'.done → IsNode (record kept { ids = ids'; work = Some working'; journal = journal' })
    early_kept cause early working' ids' decided consistent =
        commit_kept early.tx working' ids' kept.rows (subst (λ found. IsDecided working working' kept.ids ids' early.tx (ran_of early.tx) found) (sym (early_is_so cause early)) (decided (ran_of early.tx))) consistent
        (rows_told (tables_of kept.app) (told_in kept.work) (early.tx.id ∷ []) kept.rows (world_in kept).jobs node.rows)

    -- by what is recorded of a job
    pub by_job_kept : (number : ℕ) (found : IsByJob kept.app kept.ids working kept.rows number) (working' : DeliveredBlock) (ids' : IdIndex) (rows' : List JobRow)
        → IsDecided working working' kept.ids ids' found.tx found.recorded.ran (outcome_by kept.app.exact (tables_of kept.app) kept.history working.done kept.rows (is_done kept node working number found))
        → IsConsistent (tables_of kept.app) working'.done → rows' ≡ put_row kept.rows number stage.Taken → IsNode (record kept { ids = ids'; work = Some working'; rows = rows'; journal = journal' })
    by_job_kept number found working' ids' rows' decided consistent rows_are =
        commit_kept found.tx working' ids' rows' so consistent
        (subst (λ (rows : List JobRow). AreRowsOf (tables_of kept.app) (told_in kept.work ++ found.tx.id ∷ []) rows (world_in kept).jobs) (sym rows_are)
        (rows_take (tables_of kept.app) (told_in kept.work ++ found.tx.id ∷ []) kept.rows (world_in kept).jobs number job.0 job.1.stands (its_stage kept node working number found).0 known
        (rows_told (tables_of kept.app) (told_in kept.work) (found.tx.id ∷ []) kept.rows (world_in kept).jobs node.rows)))
      where
        job : (one : Job) × IsJobOf kept found.tx found.row number one
        job = its_job kept node working number found

        so : IsDecided working working' kept.ids ids' found.tx (ran_of found.tx) (decided_so found.tx)
        so = subst (λ (ran : Ran). IsDecided working working' kept.ids ids' found.tx ran (decided_so found.tx)) (sym (ran_is kept node working number found))
            (subst (λ (one : Outcome). IsDecided working working' kept.ids ids' found.tx found.recorded.ran one) (sym (job_is_so number found)) decided)

        same_id : bytes_eq job.0.tx.id found.tx.id ≡ true
        same_id = (bytes_eq-Decides job.0.tx.id found.tx.id).1 (ap (λ (tx : Tx). tx.id) job.1.same)

        known : list_any (bytes_eq job.0.tx.id) (told_in kept.work ++ found.tx.id ∷ []) ≡ true
        known =
            list_any-append (bytes_eq job.0.tx.id) (told_in kept.work) (found.tx.id ∷ [])
            ∙ ap (λ b. list_any (bytes_eq job.0.tx.id) (told_in kept.work) || (b || false)) same_id ∙ or_true (list_any (bytes_eq job.0.tx.id) (told_in kept.work))

  -- ---- the room of the journal

  -- a done job was not held
  pub taken_held : (number : ℕ) (found : IsByJob kept.app kept.ids working kept.rows number) → count_held (put_row kept.rows number stage.Taken) ≡ count_held kept.rows
  taken_held number found =
      let counted = count_put kept.rows number stage.Taken found.row found.stands in
      let none : one_held found.row.stage ≡ 0 = ap one_held found.done in
      let taken : one_held stage.Taken ≡ 0 = refl in
      omega (arith, counted, none, taken)

-- no block is in work
pub no_block : (kept : Kept) (node : IsNode kept) (actor height : ℕ) → height ≡ length kept.results → kept.work ≡ None → Steps (core_of kept) actor ToCommit (NoBlock height) (core_of kept)
no_block kept node actor height at none = stays kept node actor ToCommit (NoBlock height) (commit_idle kept node height at none)
