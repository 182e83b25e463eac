-- A held job: its row, and the tables that it reads.
use Rattle.std.proofs.Common.{All, List, Option, Some, [], ap, arith, cond, false, length, length-append, refl, subst, sym, true, ◌+◌, ◌++◌, ◌<◌, ◌≡◌, ◌≤◌, ◌∷◌, ℕ}
use Rattle.std.proofs.lemmas.List.Elements.{All-cons, All-head, All-tail}
use Rattle.std.specs.Option.{IsSomeAnd, option_map}
use Rattle.std.specs.Prelude.{◌^◌}
use Rattle.block_work.proofs.Fitting.{runs_fit, store_fits}
use Rattle.block_work.specs.Causes.{RunFits}
use Rattle.node_core.proofs.Going as going
use Rattle.node_core.proofs.Journal.{core_of}
use Rattle.node_core.proofs.Rowed.{row_of, status_is}
use Rattle.node_core.proofs.Table.{change_of}
use Rattle.node_core.specs.Core.{IsHeld}
use Rattle.node_core.specs.InHand.{InHand, IsNextRead, job_in, run_on, so_far}
use Rattle.node_core.specs.Kept.{IsNode, IsRowOf, Kept, told_in, world_in}
use Rattle.node_core.specs.Rows.{count_held, one_held, put_row, row_at, status_of}
use Rattle.node_core.specs.declared.jobs.JobRow.{JobRow}
use Rattle.node_core.specs.declared.jobs.Stage.{Stage}
use Rattle.node_model.specs.Decide.{run_at}
use Rattle.node_model.specs.Events.{next_read}
use Rattle.node_model.specs.History.{snapshot, time_at}
use Rattle.node_model.specs.World.{is_held}
use Rattle.proc_run.specs.MachineView.{Agrees}
use Rattle.proc_syntax.proofs.Runs.{few_reads, reads_fit}
use Rattle.proc_syntax.specs.Declaring.{tables_of}
use Rattle.proc_syntax.specs.Run.{run}
use Rattle.rel_base.specs.Among.{ReadFitsIn, TablesFit}
use Rattle.rel_base.specs.Tables.{HistoryFits, Tables, tables_at}
use Rattle.rel_base.specs.declared.access.Read.{Read}
use Rattle.serial_laws.proofs.Fitting.{tables_fit}
use mathlib.Core.List.{IsPrefix}

-- ---- the first of a list

front_still : {X : Type 0} (P : X → Type 0) (front rest : List X) → All P (front ++ rest) → All P front
front_still P [] rest all = λ k d below. absurd (omega (arith, below))
front_still P (x ∷ front) rest all = All-cons P x front (All-head P x (front ++ rest) all) (front_still P front rest (All-tail P x (front ++ rest) all))

module _ (kept : Kept) (node : IsNode kept) where
  pub history_fits : HistoryFits (tables_of kept.app) kept.history
  history_fits = store_fits kept.app kept.tables kept.history kept.results node.sound

  module _ (work : InHand) (held : IsHeld (core_of kept) work) where
    there : (row : JobRow) × (row_at kept.rows work.job ≡ Some row) × IsRowOf (tables_of kept.app) (told_in kept.work) row (job_in work)
    there = row_of (tables_of kept.app) (told_in kept.work) kept.rows (world_in kept).jobs work.job (job_in work) held.holds.stands node.rows

    row_held : is_held (status_of there.0.stage) ≡ true
    row_held = ap is_held (status_is (tables_of kept.app) (told_in kept.work) there.0.stage (job_in work) there.2.stage)

    -- the table has its job as a held one
    pub held_there : IsSomeAnd (row_at kept.rows work.job) (λ row. is_held (status_of row.stage) ≡ true)
    held_there = subst (λ (found : Option JobRow). IsSomeAnd found (λ row. is_held (status_of row.stage) ≡ true)) (sym there.1) row_held

    -- so there is room for one entry more
    pub has_spare : (len capacity : ℕ) → len + count_held kept.rows ≤ capacity → len < capacity
    has_spare len capacity room =
        let one : one_held there.0.stage ≡ 1 = ap (λ b. cond b 1 0) row_held in
        let change = change_of kept.rows work.job there.0.stage there.0.stage (ap (option_map (λ (row : JobRow). row.stage)) there.1) in
        let least = change.room in omega (arith, one, least, room)

    -- and for all others, when it is held no more
    pub room_after : (now : Stage) → is_held (status_of now) ≡ false → (rows' : List JobRow) (len len' capacity capacity' : ℕ) → rows' ≡ put_row kept.rows work.job now → len + count_held kept.rows ≤ capacity → len' ≡ len + 1 → capacity' ≡ capacity
        → len' + count_held rows' ≤ capacity'
    room_after now free rows' len len' capacity capacity' are room longer same =
        let one : one_held there.0.stage ≡ 1 = ap (λ b. cond b 1 0) row_held in
        let none : one_held now ≡ 0 = ap (λ b. cond b 1 0) free in
        let change = change_of kept.rows work.job there.0.stage now (ap (option_map (λ (row : JobRow). row.stage)) there.1) in
        let count = change.count in
        let counted : count_held rows' ≡ count_held (put_row kept.rows work.job now) = ap count_held are in
        omega (arith, one, none, count, counted, room, longer, same)

    -- ---- the tables of its height

    abbrev pub tables : Tables
    tables = snapshot work.told.tx.height (world_in kept).sealed

    pub run_is : run_on work.told tables ≡ run_at kept.app (world_in kept).sealed work.told.tx
    run_is = going.run_is (core_of kept) node.legal work held

    front : IsPrefix work.told.fed (run_at kept.app (world_in kept).sealed work.told.tx).reads
    front = going.front (core_of kept) node.legal work held

    -- its reads so far have the rows of these tables
    pub agrees : Agrees (tables_of work.told.app) tables work.told.fed
    agrees = going.agrees (core_of kept) node.legal work held

    -- its reads so far can be judged
    pub front_fits : RunFits (tables_of kept.app) (so_far work.told.fed)
    front_fits = record {
      reads = front_still (λ made. ReadFitsIn (tables_of kept.app) made.read) work.told.fed front.0
          (subst (All (λ made. ReadFitsIn (tables_of kept.app) made.read)) (sym front.1) (reads_fit kept.app work.told.tx (time_at work.told.tx.height (world_in kept).sealed) tables));
      writes = λ k d below. absurd (omega (arith, below));
      rise = refl;
      few = few;
      few_writes = omega arith;
    }
      where
        few : length work.told.fed < 2 ^ 32
        few =
            let all : length (run_at kept.app (world_in kept).sealed work.told.tx).reads ≤ 100000 = few_reads kept.app work.told.tx (time_at work.told.tx.height (world_in kept).sealed) tables in
            let longer : length (work.told.fed ++ front.0) ≡ length work.told.fed + length front.0 = length-append work.told.fed front.0 in
            let same : length (work.told.fed ++ front.0) ≡ length (run_at kept.app (world_in kept).sealed work.told.tx).reads = ap length front.1 in
            omega (arith, all, longer, same)

    -- and so can its whole run
    pub run_fits : RunFits (tables_of kept.app) (run_at kept.app (world_in kept).sealed work.told.tx)
    run_fits = subst (λ history. RunFits (tables_of kept.app) (run kept.app work.told.tx (time_at work.told.tx.height (world_in kept).sealed) (tables_at work.told.tx.height history))) node.holds.writes
        (runs_fit kept.app work.told.tx (time_at work.told.tx.height (world_in kept).sealed) work.told.tx.height kept.history history_fits)

    pub tables_are_fit : TablesFit (tables_of kept.app) (tables_at work.told.tx.height kept.history)
    tables_are_fit = tables_fit (tables_of kept.app) work.told.tx.height kept.history history_fits

    -- the read that it wants is the next of its run
    pub next_is : (read : Read) → IsNextRead work.told read → next_read kept.app (world_in kept).sealed (job_in work) ≡ Some read
    next_is = going.next_is (core_of kept) node.legal work held
