-- A seal is a step.
use Rattle.std.proofs.Common.{Bool, List, None, Option, Some, [], ap, append-nil, arith, cond, false, length, map, refl, slice_get, subst, suc, sym, true, zero, ◌&&◌, ◌+◌, ◌++◌, ◌||◌, ◌∙◌, ◌≡◌, ◌≤◌, ◌∷◌, ℕ}
use Rattle.std.proofs.lemmas.Bool.{false≢true}
use Rattle.std.proofs.lemmas.List.Folds.{list_any-append}
use Rattle.std.proofs.lemmas.List.{take_all}
use Rattle.std.proofs.lemmas.Option.{none-some, same_Some}
use Rattle.std.specs.List.{list_any}
use Rattle.std.specs.Option.{IsSomeAnd, is_some, option_map}
use Rattle.std.specs.Prelude.{IfSome}
use Rattle.std.specs.Str.{bytes_eq}
use Rattle.block_work.proofs.Places.{is_known, places_sealed}
use Rattle.block_work.specs.Block.{sealed_of}
use Rattle.block_work.specs.Chain.{HoldsChain, StoreFits}
use Rattle.block_work.specs.Ids.{HasFirstPlaces, place_of_id}
use Rattle.node_core.proofs.Journal.{core_of, facts, legal_noted, stays, world_noted}
use Rattle.node_core.proofs.Rowed.{status_is}
use Rattle.node_core.proofs.Settled.{first_places, height_is, inside, number_next, works_on}
use Rattle.node_core.specs.Answers.{sealed_as}
use Rattle.node_core.specs.Core.{Steps}
use Rattle.node_core.specs.Kept.{AreRowsOf, IsNode, IsRowOf, IsStageOf, Kept, shown_work, told_in, world_in}
use Rattle.node_core.specs.Over.{CanJoin, drop_among, drop_settled, not_sealed}
use Rattle.node_core.specs.Rows.{at_stage, is_open}
use Rattle.node_core.specs.declared.answers.Sealed as answers
use Rattle.node_core.specs.declared.answers.Sealed.TheVariants as sealed
use Rattle.node_core.specs.declared.jobs.JobRow.{JobRow}
use Rattle.node_core.specs.declared.jobs.Stage.TheVariants as stage
use Rattle.node_core.specs.declared.jobs.Stage.{Stage}
use Rattle.node_core.specs.declared.delivered_block.DeliveredBlock.{DeliveredBlock}
use Rattle.node_model.specs.Events.{after, drop_over, dropped, is_over, is_settled, with_sealed}
use Rattle.node_model.specs.Fold as fold
use Rattle.node_model.specs.Fold.{chain_digest}
use Rattle.node_model.specs.History.{SealedBlock, ids_of, ids_told}
use Rattle.node_model.specs.Journals.{world}
use Rattle.node_model.specs.Steps.{Digest, Reply, Shared, ToSeal, reply, seals, seals_due}
use Rattle.node_model.specs.World.{BlockInWork, Job, JobStatus, World, decided, due, is_done, is_waiting}
use Rattle.node_model.specs.declared.journal.Entry.{Entry}
use Rattle.node_model.specs.declared.journal.Event.TheVariants.{Seal}
use Rattle.node_model.specs.declared.result.BlockResult.{BlockResult}
use Rattle.proc_syntax.specs.Declaring.{tables_of}
use Rattle.proc_syntax.specs.declared.call.Block.{Block}
use Rattle.proc_syntax.specs.declared.call.Tx.{Tx}
use Rattle.proc_syntax.specs.declared.tree.App.{App}
use Rattle.rel_base.specs.Tables.{Stamped}
use Rattle.rel_base.specs.declared.schema.TableDef.{TableDef}
use Rattle.rel_base.proofs.Bits.{or_true}
use Rattle.schedule_laws.proofs.Chains.{settled-known}
use Rattle.schedule_laws.specs.Facts.{EachJob, JobFits}

-- ---- rows

-- the row of a job that is not dropped is one where nothing is reported of the next block
keeps_stage : (tables : List TableDef) (told : List (List ℕ)) (now : Stage) (job : Job) (known : Bool) → IsStageOf tables told now job → (list_any (bytes_eq job.tx.id) told ≡ true → known ≡ true)
    → (is_open now && known) ≡ false → IsStageOf tables [] now job
keeps_stage tables told stage.Waiting job known is settles stays_so = is
keeps_stage tables told (stage.Held actor) job known is settles stays_so = is
keeps_stage tables told (stage.Done recorded) job known is settles stays_so = is
keeps_stage tables told stage.Taken job known is settles stays_so = absurd (false≢true (sym stays_so ∙ settles is.1))
keeps_stage tables told stage.Dropped job known is settles stays_so = is

-- nothing stands at a place after a list's end
past_end : (txs : List Tx) (n : ℕ) → slice_get txs n ≡ None → length txs ≤ n
past_end [] n none = omega arith
past_end (tx ∷ txs) zero none = absurd (none-some tx (sym none))
past_end (tx ∷ txs) (suc n) none = let rest : length txs ≤ n = past_end txs n none in omega (arith, rest)

-- what holds of each job holds of each after the first
each_behind : (P : Job → Type 0) (job : Job) (jobs : List Job) → EachJob P (job ∷ jobs) → EachJob P jobs
each_behind P job jobs each zero other there = absurd (none-some other there)
each_behind P job jobs each (suc place) other there = each (suc (suc place)) other there

-- ---- where no block is sealed

abbrev as_reply : answers.Sealed → Reply
as_reply answer = (sealed_as answer, None)

module _ (kept : Kept) (node : IsNode kept) (height : ℕ) where
  module _ (at : height ≡ length kept.results) where
    waits_for : (working : DeliveredBlock) (answer : answers.Sealed) (found : Option Tx) → option_map (λ (tx : Tx). sealed.NotAll (decided (shown_work working) + 1)) found ≡ Some answer
        → seals_due kept.app (world_in kept) (shown_work working) found ≡ as_reply answer
    waits_for working answer None is = absurd (none-some answer is)
    waits_for working answer (Some tx) is = ap as_reply (same_Some (sealed.NotAll (decided (shown_work working) + 1)) answer is)

    pub seal_stays : (actor : ℕ) (answer : answers.Sealed) → not_sealed height kept.work ≡ Some answer → Steps (core_of kept) actor ToSeal (sealed_as answer) (core_of kept)
    seal_stays actor answer is = stays kept node actor ToSeal (sealed_as answer) (ap (seals kept.app (world_in kept)) (sym node.work) ∙ by kept.work is)
      where
        so : height ≡ length (world_in kept).sealed
        so = at ∙ height_is kept node

        by : (work : Option DeliveredBlock) → not_sealed height work ≡ Some answer → seals kept.app (world_in kept) (option_map shown_work work) ≡ as_reply answer
        by None is = ap (λ n. as_reply (sealed.NoBlock n)) (sym so) ∙ ap as_reply (same_Some (sealed.NoBlock height) answer is)
        by (Some working) is = waits_for working answer (due (shown_work working)) is

  -- ---- where one is

  none_due : (working : DeliveredBlock) (found : Option Tx) → option_map (λ (tx : Tx). sealed.NotAll (decided (shown_work working) + 1)) found ≡ None → found ≡ None
  none_due working None is = refl
  none_due working (Some tx) is = absurd (none-some (sealed.NotAll (decided (shown_work working) + 1)) (sym is))

  -- it is in work, and all of it is decided
  whole : not_sealed height kept.work ≡ None → (working : DeliveredBlock) × (kept.work ≡ Some working) × (due (shown_work working) ≡ None)
  whole is = by kept.work refl is
    where
      by : (work : Option DeliveredBlock) → kept.work ≡ work → not_sealed height work ≡ None → (working : DeliveredBlock) × (kept.work ≡ Some working) × (due (shown_work working) ≡ None)
      by None here is = absurd (none-some (sealed.NoBlock height) (sym is))
      by (Some working) here is = (working, here, none_due working (due (shown_work working)) is)

-- ---- the block in work

module _ (kept : Kept) (node : IsNode kept) (working : DeliveredBlock) (here : kept.work ≡ Some working) where
  joins : CanJoin (tables_of kept.app) (length kept.results) working
  joins =
      let within = ((facts kept node).work_fits (shown_work working) (inside kept node working here)).within in
      let most = working.block.value.few in
      record {
        next = number_next kept node working here ∙ ap (λ n. n + 1) (sym (height_is kept node));
        few = omega (arith, within, most);
        consistent = (works_on kept node working here).consistent;
      }

  -- the block as it is sealed, and the chain with it
  abbrev block : SealedBlock
  block = fold.sealed_as working.block.value (shown_work working).done

  abbrev grown : List SealedBlock
  grown = (world_in kept).sealed ++ block ∷ []

  block_is : sealed_of working.done ≡ block
  block_is = λ i. record { number = (works_on kept node working here).number i; time = (works_on kept node working here).time i; outcomes = working.done.outcomes.items; committed = working.done.committed.items }

  -- ---- ids

  places_after : HasFirstPlaces kept.ids grown 0 []
  places_after = places_sealed kept.ids (world_in kept).sealed block 0 (subst (λ n. HasFirstPlaces kept.ids (world_in kept).sealed n working.done.outcomes.items) (works_on kept node working here).number (first_places kept node working here))

  -- the ids that have a place are those that are settled
  settled_now : (id : List ℕ) → is_some (place_of_id kept.ids id) ≡ is_settled id grown
  settled_now id = is_known kept.ids grown 0 [] id places_after ∙ ap (list_any (bytes_eq id)) (append-nil (ids_of grown)) ∙ sym (settled-known id grown)

  -- and those of the block are among them
  told_settled : (id : List ℕ) → list_any (bytes_eq id) (ids_told working.done.outcomes.items) ≡ true → is_some (place_of_id kept.ids id) ≡ true
  told_settled id told =
      is_known kept.ids (world_in kept).sealed working.done.number working.done.outcomes.items id (first_places kept node working here)
      ∙ list_any-append (bytes_eq id) (ids_of (world_in kept).sealed) (ids_told working.done.outcomes.items)
      ∙ ap (λ b. list_any (bytes_eq id) (ids_of (world_in kept).sealed) || b) told
      ∙ or_true (list_any (bytes_eq id) (ids_of (world_in kept).sealed))

  -- ---- jobs

  row_after : (row : JobRow) (job : Job) → IsRowOf (tables_of kept.app) (ids_told working.done.outcomes.items) row job → IsRowOf (tables_of kept.app) [] (drop_settled kept.ids row) (drop_over grown job)
  row_after row job is =
      subst (λ b. IsRowOf (tables_of kept.app) [] (drop_settled kept.ids row) (cond b (dropped job) job)) same_test
      (by (is_open row.stage && is_some (place_of_id kept.ids row.tx.value.id)) refl)
    where
      same_test : (is_open row.stage && is_some (place_of_id kept.ids row.tx.value.id)) ≡ is_over grown job
      same_test =
          ap (λ (s : JobStatus). (is_waiting s || is_done s) && is_some (place_of_id kept.ids row.tx.value.id)) (status_is (tables_of kept.app) (ids_told working.done.outcomes.items) row.stage job is.stage)
          ∙ ap (λ (t : Tx). (is_waiting job.status || is_done job.status) && is_some (place_of_id kept.ids t.id)) is.tx
          ∙ ap (λ b. (is_waiting job.status || is_done job.status) && b) (settled_now job.tx.id)

      settles : list_any (bytes_eq job.tx.id) (ids_told working.done.outcomes.items) ≡ true → is_some (place_of_id kept.ids row.tx.value.id) ≡ true
      settles told = ap (λ (t : Tx). is_some (place_of_id kept.ids t.id)) is.tx ∙ told_settled job.tx.id told

      by : (b : Bool) → (is_open row.stage && is_some (place_of_id kept.ids row.tx.value.id)) ≡ b → IsRowOf (tables_of kept.app) [] (cond b (at_stage stage.Dropped row) row) (cond b (dropped job) job)
      by true over = record { tx = is.tx; stage = refl }
      by false over = record {
        tx = is.tx;
        stage = keeps_stage (tables_of kept.app) (ids_told working.done.outcomes.items) row.stage job (is_some (place_of_id kept.ids row.tx.value.id)) is.stage settles over;
      }

  rows_after : (rows : List JobRow) (jobs : List Job) → AreRowsOf (tables_of kept.app) (ids_told working.done.outcomes.items) rows jobs
      → AreRowsOf (tables_of kept.app) [] (map (drop_settled kept.ids) rows) (map (drop_over grown) jobs)
  rows_after [] [] are = tt
  rows_after [] (job ∷ jobs) are = absurd are
  rows_after (row ∷ rows) [] are = absurd are
  rows_after (row ∷ rows) (job ∷ jobs) are = (row_after row job are.0, rows_after rows jobs are.1)

  -- ---- the step

  module _ (all : due (shown_work working) ≡ None) (actor number : ℕ) (zero_actor : actor ≡ 0) (numbered : number ≡ working.done.number) (journal' : List Entry)
      (noted : journal' ≡ kept.journal ++ record { actor = actor; event = Seal number } ∷ []) where
    abbrev answer_as : ℕ → Reply
    answer_as n = (Digest n (chain_digest (tables_of kept.app) grown), Some (Seal n))

    told : reply kept.app (world_in kept) ToSeal ≡ answer_as number
    told = ap (seals kept.app (world_in kept)) (inside kept node working here) ∙ ap (seals_due kept.app (world_in kept) (shown_work working)) all ∙ ap answer_as (sym (numbered ∙ (works_on kept node working here).number))

    after_it : world kept.app journal' ≡ after kept.app (world_in kept) (record { actor = actor; event = Seal number })
    after_it = world_noted kept node actor ToSeal (Digest number (chain_digest (tables_of kept.app) grown)) (Seal number) zero_actor told journal' noted

    sealed_now : (world kept.app journal').sealed ≡ grown
    sealed_now = ap (λ (w : World). w.sealed) after_it ∙ ap (with_sealed (world_in kept).sealed) (inside kept node working here)

    jobs_now : (world kept.app journal').jobs ≡ map (drop_over grown) (world_in kept).jobs
    jobs_now = ap (λ (w : World). w.jobs) after_it ∙ ap (λ (work : Option BlockInWork). map (drop_over (with_sealed (world_in kept).sealed work)) (world_in kept).jobs) (inside kept node working here)

    module _ (app' : App) (tables' : List TableDef) (history' : List Stamped) (results' : List BlockResult) (same_app : app' ≡ kept.app) (sound : StoreFits app' tables' history' results')
        (grows : (chain : List SealedBlock) → HoldsChain (tables_of kept.app) chain kept.history kept.results → HoldsChain (tables_of kept.app) (chain ++ sealed_of working.done ∷ []) history' results') where
      holds_after : HoldsChain (tables_of kept.app) grown history' results'
      holds_after = subst (λ (b : SealedBlock). HoldsChain (tables_of kept.app) ((world_in kept).sealed ++ b ∷ []) history' results') block_is (grows (world_in kept).sealed node.holds)

      abbrev kept_with : App → List JobRow → Kept
      kept_with app rows = record { app = app; tables = tables'; history = history'; results = results'; ids = kept.ids; work = None; rows = rows; journal = journal' }

      seal_kept : (rows' : List JobRow) → rows' ≡ map (drop_settled kept.ids) kept.rows → IsNode (kept_with app' rows')
      seal_kept rows' are = subst (λ (app : App). StoreFits app tables' history' results' → IsNode (kept_with app rows')) (sym same_app) (λ fits_so. record {
        legal = legal_noted kept node actor ToSeal (Digest number (chain_digest (tables_of kept.app) grown)) (Seal number) zero_actor told journal' noted;
        sound = fits_so;
        holds = subst (λ (chain : List SealedBlock). HoldsChain (tables_of kept.app) chain history' results') (sym sealed_now) holds_after;
        ids = subst (λ (chain : List SealedBlock). HasFirstPlaces kept.ids chain 0 []) (sym sealed_now) places_after;
        work = sym (ap (λ (w : World). w.work) after_it);
        working = tt;
        rows = subst (λ (jobs : List Job). AreRowsOf (tables_of kept.app) [] rows' jobs) (sym jobs_now)
            (subst (λ (rows : List JobRow). AreRowsOf (tables_of kept.app) [] rows (map (drop_over grown) (world_in kept).jobs)) (sym are)
            (rows_after kept.rows (world_in kept).jobs (subst (λ (w : Option DeliveredBlock). AreRowsOf (tables_of kept.app) (told_in w) kept.rows (world_in kept).jobs) here node.rows)));
      }) sound

-- ---- which jobs are dropped

module _ (kept : Kept) (node : IsNode kept) (working : DeliveredBlock) (here : kept.work ≡ Some working) where
  abbrev told_ids : List (List ℕ)
  told_ids = ids_told working.done.outcomes.items

  -- an id that is not settled is known where it is one of the block in work
  known_if : (id : List ℕ) → is_settled id (world_in kept).sealed ≡ false → list_any (bytes_eq id) told_ids ≡ is_some (place_of_id kept.ids id)
  known_if id unsettled =
      sym (is_known kept.ids (world_in kept).sealed working.done.number working.done.outcomes.items id (first_places kept node working here)
      ∙ list_any-append (bytes_eq id) (ids_of (world_in kept).sealed) told_ids
      ∙ ap (λ b. b || list_any (bytes_eq id) told_ids) (sym (settled-known id (world_in kept).sealed) ∙ unsettled))

  row_dropped : (row : JobRow) (job : Job) → IsRowOf (tables_of kept.app) told_ids row job → JobFits kept.app (world_in kept).sealed job → drop_among told_ids row ≡ drop_settled kept.ids row
  row_dropped row job is fits_so = by (is_open row.stage) refl
    where
      open_is : is_open row.stage ≡ (is_waiting job.status || is_done job.status)
      open_is = ap (λ (s : JobStatus). is_waiting s || is_done s) (status_is (tables_of kept.app) told_ids row.stage job is.stage)

      by : (b : Bool) → is_open row.stage ≡ b
          → cond (b && list_any (bytes_eq row.tx.value.id) told_ids) (at_stage stage.Dropped row) row ≡ cond (b && is_some (place_of_id kept.ids row.tx.value.id)) (at_stage stage.Dropped row) row
      by false is_so = refl
      by true is_so = ap (λ b. cond b (at_stage stage.Dropped row) row)
          (known_if row.tx.value.id (ap (λ (t : Tx). is_settled t.id (world_in kept).sealed) is.tx ∙ fits_so.unsettled (sym open_is ∙ is_so)))

  rows_dropped : (rows : List JobRow) (jobs : List Job) → AreRowsOf (tables_of kept.app) told_ids rows jobs → EachJob (JobFits kept.app (world_in kept).sealed) jobs
      → map (drop_among told_ids) rows ≡ map (drop_settled kept.ids) rows
  rows_dropped [] [] are each = refl
  rows_dropped [] (job ∷ jobs) are each = absurd are
  rows_dropped (row ∷ rows) [] are each = absurd are
  rows_dropped (row ∷ rows) (job ∷ jobs) are each = (λ i. row_dropped row job are.0 (each 1 job refl) i ∷ rows_dropped rows jobs are.1 (each_behind (JobFits kept.app (world_in kept).sealed) job jobs each) i)

  -- the ids of a block that is decided are reported
  ids_all : due (shown_work working) ≡ None → map (λ (tx : Tx). tx.id) working.block.value.txs ≡ told_ids
  ids_all all = sym (((facts kept node).work_fits (shown_work working) (inside kept node working here)).told
      ∙ ap (map (λ (tx : Tx). tx.id)) (take_all (decided (shown_work working)) working.block.value.txs (past_end working.block.value.txs (decided (shown_work working)) all)))

  all_dropped : due (shown_work working) ≡ None → map (drop_among (map (λ (tx : Tx). tx.id) working.block.value.txs)) kept.rows ≡ map (drop_settled kept.ids) kept.rows
  all_dropped all =
      ap (λ ids. map (drop_among ids) kept.rows) (ids_all all)
      ∙ rows_dropped kept.rows (world_in kept).jobs (subst (λ (w : Option DeliveredBlock). AreRowsOf (tables_of kept.app) (told_in w) kept.rows (world_in kept).jobs) here node.rows) (facts kept node).jobs_fit

-- ---- by what is known of the parts

module _ (kept : Kept) (node : IsNode kept) (height : ℕ) (none : not_sealed height kept.work ≡ None) (block : Shared Block) (same : IfSome kept.work (λ working. block ≡ working.block)) where
  block_same : block ≡ (whole kept node height none).0.block
  block_same = subst (λ (w : Option DeliveredBlock). IfSome w (λ working. block ≡ working.block)) (whole kept node height none).1 same

  pub block_dropped : map (drop_among (map (λ (tx : Tx). tx.id) block.value.txs)) kept.rows ≡ map (drop_settled kept.ids) kept.rows
  block_dropped =
      let all = whole kept node height none in
      ap (λ (b : Shared Block). map (drop_among (map (λ (tx : Tx). tx.id) b.value.txs)) kept.rows) block_same ∙ all_dropped kept node all.0 all.1 all.2

  pub block_number : IfSome kept.work (λ working. block.value.number ≡ working.done.number)
  block_number =
      let all = whole kept node height none in
      subst (λ (w : Option DeliveredBlock). IfSome w (λ working. block.value.number ≡ working.done.number)) (sym all.1)
      (ap (λ (b : Shared Block). b.value.number) block_same ∙ sym (works_on kept node all.0 all.1).number)

pub can_join : (kept : Kept) (node : IsNode kept) (height : ℕ) → not_sealed height kept.work ≡ None → IsSomeAnd kept.work (CanJoin (tables_of kept.app) (length kept.results))
can_join kept node height none =
    let all = whole kept node height none in
    subst (λ (w : Option DeliveredBlock). IsSomeAnd w (CanJoin (tables_of kept.app) (length kept.results))) (sym all.1) (joins kept node all.0 all.1)

module _ (kept : Kept) (node : IsNode kept) (height : ℕ) (none : not_sealed height kept.work ≡ None) (actor number : ℕ) (zero_actor : actor ≡ 0)
    (numbered : IfSome kept.work (λ working. number ≡ working.done.number)) (journal' : List Entry) (noted : journal' ≡ kept.journal ++ record { actor = actor; event = Seal number } ∷ [])
    (app' : App) (tables' : List TableDef) (history' : List Stamped) (results' : List BlockResult) (same_app : app' ≡ kept.app) (sound : StoreFits app' tables' history' results')
    (grows : IfSome kept.work (λ working. (chain : List SealedBlock) → HoldsChain (tables_of kept.app) chain kept.history kept.results
    → HoldsChain (tables_of kept.app) (chain ++ sealed_of working.done ∷ []) history' results')) where
  in_work : (working : DeliveredBlock) × (kept.work ≡ Some working) × (due (shown_work working) ≡ None)
  in_work = whole kept node height none

  numbered_so : number ≡ in_work.0.done.number
  numbered_so = subst (λ (w : Option DeliveredBlock). IfSome w (λ working. number ≡ working.done.number)) in_work.1 numbered

  grows_so : (chain : List SealedBlock) → HoldsChain (tables_of kept.app) chain kept.history kept.results → HoldsChain (tables_of kept.app) (chain ++ sealed_of in_work.0.done ∷ []) history' results'
  grows_so = subst (λ (w : Option DeliveredBlock). IfSome w (λ working. (chain : List SealedBlock) → HoldsChain (tables_of kept.app) chain kept.history kept.results
      → HoldsChain (tables_of kept.app) (chain ++ sealed_of working.done ∷ []) history' results')) in_work.1 grows

  pub sealed_kept : (work' : Option DeliveredBlock) (rows' : List JobRow) → work' ≡ None → rows' ≡ map (drop_settled kept.ids) kept.rows
      → IsNode (record { app = app'; tables = tables'; history = history'; results = results'; ids = kept.ids; work = work'; rows = rows'; journal = journal' })
  sealed_kept work' rows' empty are =
      subst (λ (w : Option DeliveredBlock). IsNode (record { app = app'; tables = tables'; history = history'; results = results'; ids = kept.ids; work = w; rows = rows'; journal = journal' })) (sym empty)
      (seal_kept kept node in_work.0 in_work.1 in_work.2 actor number zero_actor numbered_so journal' noted app' tables' history' results' same_app sound grows_so rows' are)
