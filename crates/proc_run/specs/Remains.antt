-- What remains of a run, from where it stands, on any tables.
use Rattle.std.specs.Prelude.{◌≡◌, ◌+◌, ◌++◌, ℕ, cond, Bool, true, false, T, List, [], ◌∷◌, Option, Some, None, IfSome, Result, Ok, Err, slice_get, slice_set}
use Rattle.std.specs.FinMap.Entries.{is_sorted}
use Rattle.rel_base.specs.declared.access.Read.{Read}
use Rattle.rel_base.specs.declared.access.Read.TheVariants.{Point, Span}
use Rattle.rel_base.specs.declared.access.Seen.{Seen}
use Rattle.rel_base.specs.declared.schema.TableDef.{TableDef}
use Rattle.rel_base.specs.declared.value.Value.{Value}
use Rattle.rel_base.specs.Access.{read_table}
use Rattle.rel_base.specs.Among.{rows_in, ReadFitsIn}
use Rattle.rel_base.specs.OwnWrites.{Own, keyed, merged}
use Rattle.rel_base.specs.Tables.{Tables}
use Rattle.rel_base.specs.Value.{key_cmp}
use Rattle.row_sets.specs.Overlay.{Written, AreFound, own_of}
use Rattle.proc_syntax.specs.declared.run.Binding.{Binding}
use Rattle.proc_syntax.specs.declared.run.Binding.TheVariants.{Plain, Held}
use Rattle.proc_syntax.specs.declared.run.Stop.TheVariants as stop
use Rattle.proc_syntax.specs.Steps.{Going, Stopped, then_do, with_some, asked, insert_at, update_at, delete_at, held_or, each_held, set_to}
use Rattle.proc_eval.specs.declared.halt.Halt.{Halt}
use Rattle.proc_eval.specs.declared.halt.Halt.TheVariants as halt
use Rattle.proc_code.specs.declared.tree.Action.{Action}
use Rattle.proc_code.specs.declared.tree.Term.{Term}
use Rattle.proc_code.specs.Coded.{State, Progress, put, hold, worth_of, do_all}
use Rattle.proc_run.specs.declared.path.Branch.{Branch}
use Rattle.proc_run.specs.declared.path.Branch.TheVariants.{First, Second}
use Rattle.proc_run.specs.declared.path.Spot.{Spot}
use Rattle.proc_run.specs.declared.path.Spot.TheVariants.{Block}
use Rattle.proc_run.specs.declared.plan.Pending.{Pending}
use Rattle.proc_run.specs.declared.plan.Pending.TheVariants.{Insert, Update, Delete, Get, For}
use Rattle.proc_run.specs.declared.plan.Plan.{Plan}
use Rattle.proc_run.specs.declared.plan.Plan.TheVariants as plan
use Rattle.proc_run.specs.declared.state.Phase.{Phase}
use Rattle.proc_run.specs.declared.state.Phase.TheVariants as phase
use Rattle.proc_run.specs.declared.state.Run.{Run}
use Rattle.proc_run.specs.Path.{Frame, Rest, Rows, part_of, block_of, frames_of}

abbrev pub state : Run → State
state run = record { environment = run.environment; own = own_of run.own; made = run.made.items; steps = run.steps }

-- the rows that a transaction sees at a read of a table that may be declared
abbrev pub seen_by : Option TableDef → Read → Own → List Seen → List (List Value)
seen_by None read own rows = []
seen_by (Some def) read own rows = merged def read own rows

abbrev pub seen_in : List TableDef → Read → Own → List Seen → List (List Value)
seen_in declared read own rows = seen_by (slice_get declared (read_table read)) read own rows

-- what is done at the key of a point read
abbrev pub at_key : Read → (ℕ → List Value → State → Progress) → State → Progress
at_key (Point table key) act state = act table key state
at_key (Span table column low high) act state = Stopped state stop.IllTyped

module _ (declared : List TableDef) (columns : List (List (Option ℕ))) (tables : Tables) where
  -- what is done with the rows that a transaction sees at a read of a statement that has these blocks
  abbrev pub resume : List Action → List Action → Read → Pending → List (List Value) → State → Progress
  resume first second read (Insert row) rows state = at_key read (λ table key. insert_at table key row rows) state
  resume first second read (Update changes) rows state =
      at_key read (λ table key state. with_some (slice_get declared table) state (λ def. update_at def table key changes rows state)) state
  resume first second read Delete rows state = at_key read (λ table key. delete_at table key rows) state
  resume first second read (Get slot) rows state = held_or (hold slot (read_table read)) (do_all declared columns tables first) (do_all declared columns tables second) rows state
  resume first second read (For slot) rows state = each_held (hold slot (read_table read)) (do_all declared columns tables first) rows state

  -- a read gets rows, and what is done with them then
  abbrev pub answered : List Action → List Action → Read → Pending → List Seen → State → Progress
  answered first second read pending rows state = resume first second read pending (seen_in declared read state.own rows) (asked state read rows)

  -- what the plan of a statement that has these blocks comes to
  abbrev pub do_plan : List Action → List Action → Plan → State → Progress
  do_plan first second (plan.Set slot v) state = Going (put slot (Plain v) state)
  do_plan first second (plan.Enter holds) state = cond holds (do_all declared columns tables first state) (do_all declared columns tables second state)
  do_plan first second (plan.Ask asked) state = answered first second asked.made.read asked.pending (rows_in declared asked.made.read tables) state

  abbrev pub run_frame : Frame → State → Progress
  run_frame (Rest actions) state = do_all declared columns tables actions state
  run_frame (Rows slot table rows body) state = each_held (hold slot table) (do_all declared columns tables body) rows state

  -- the last frame goes on first
  abbrev pub run_frames : List Frame → State → Progress
  run_frames [] state = Going state
  run_frames (frame ∷ frames) state = then_do (run_frames frames state) (run_frame frame)

  -- two paths lead to one block, and what is left on them comes to the same
  abbrev pub IsSamePath : List Action → List Spot → List Spot → Type 0
  IsSamePath root one other = (block_of root one ≡ block_of root other) × ((state : State) → run_frames (frames_of root one) state ≡ run_frames (frames_of root other) state)

  -- a block of the statement of a number is done before what is left on a path
  abbrev pub IsEntered : List Action → ℕ → Branch → List Spot → List Spot → Type 0
  IsEntered root at branch old new = (state : State) → run_frames (frames_of root new) state ≡ then_do (do_all declared columns tables (part_of (block_of root old) at branch) state) (run_frames (frames_of root old))

  -- what remains once the step of the next statement of a block is counted: what the statement's plan comes to, and the rest of the block
  abbrev pub goes_past : List Action → List Spot → ℕ → Branch → ℕ → Plan → State → Progress
  goes_past root spots at branch next plan state =
      let path = spots ++ Block at branch (next + 1) ∷ [] in
      then_do (do_plan (part_of (block_of root path) next First) (part_of (block_of root path) next Second) plan (record state { steps = state.steps + 1 })) (run_frames (frames_of root path))

  -- what remains of a run
  abbrev pub remains : List Action → Phase → List Spot → State → Progress
  remains root phase.Running spots state = run_frames (frames_of root spots) state
  remains root (phase.Ask at asked) spots state =
      then_do (answered (part_of (block_of root spots) at First) (part_of (block_of root spots) at Second) asked.made.read asked.pending (rows_in declared asked.made.read tables) state) (run_frames (frames_of root spots))
  remains root (phase.Answered at asked) spots state =
      then_do (answered (part_of (block_of root spots) at First) (part_of (block_of root spots) at Second) asked.made.read asked.pending asked.made.rows state) (run_frames (frames_of root spots))
  remains root phase.Good spots state = Going state
  remains root (phase.Stopped why) spots state = Stopped state why

-- what is left of a block comes to the same, on any tables, from where a run stood and from where it stands
abbrev pub IsSameRest : List (List (Option ℕ)) → List Action → State → List Action → State → Type 0
IsSameRest columns before from after to = (declared : List TableDef) (tables : Tables) → do_all declared columns tables after to ≡ do_all declared columns tables before from

-- what is left of the block for a row, and then of the rows of a `for`, whose block is the body
abbrev pub in_visit : List TableDef → List (List (Option ℕ)) → Tables → ℕ → ℕ → List Action → List Action → List (List Value) → State → Progress
in_visit declared columns tables slot table body inside rows state = then_do (do_all declared columns tables inside state) (each_held (hold slot table) (do_all declared columns tables body) rows)

-- it comes to the same, on any tables, from where a run stood and from where it stands
abbrev pub IsSameVisit : List (List (Option ℕ)) → ℕ → ℕ → List Action → List Action → List (List Value) → State → List Action → List (List Value) → State → Type 0
IsSameVisit columns slot table body before rows from after rest to = (declared : List TableDef) (tables : Tables) → in_visit declared columns tables slot table body after rest to ≡ in_visit declared columns tables slot table body before rows from

-- the row of a number is in its variable
abbrev pub IsHeldFrom : ℕ → ℕ → ℕ → List (List Value) → List (Option Binding) → List (Option Binding) → Type 0
IsHeldFrom slot table next rows old new = (row : List Value) × (slice_get rows next ≡ Some row) × (new ≡ slice_set old slot (Some (Held table row)))

-- the step of an assignment is counted, and the variable has the value of the expression
abbrev pub IsAssigned : List (List (Option ℕ)) → ℕ → Term → State → State → Type 0
IsAssigned columns slot e from to = set_to (worth_of columns e from.environment) (λ v. put slot (Plain v)) (record from { steps = from.steps + 1 }) ≡ Going to

-- the read that is asked fits its table
abbrev pub PhaseFits : List TableDef → Phase → Type 0
PhaseFits declared phase.Running = Unit {0}
PhaseFits declared (phase.Ask at asked) = ReadFitsIn declared asked.made.read
PhaseFits declared (phase.Answered at asked) = Unit {0}
PhaseFits declared phase.Good = Unit {0}
PhaseFits declared (phase.Stopped why) = Unit {0}

-- whether it is at a read or at its end
abbrev pub waits : Phase → Bool
waits phase.Running = false
waits (phase.Ask at asked) = true
waits (phase.Answered at asked) = false
waits phase.Good = true
waits (phase.Stopped why) = true

-- whether it has the rows of its read
abbrev pub has_rows : Phase → Bool
has_rows phase.Running = false
has_rows (phase.Ask at asked) = false
has_rows (phase.Answered at asked) = true
has_rows phase.Good = false
has_rows (phase.Stopped why) = false

-- ---- the rows of a read

-- the rows of a read stand in the order of their keys, and no two have the same
abbrev pub StandInOrder : List TableDef → Read → List Seen → Type 0
StandInOrder declared read rows = IfSome (slice_get declared (read_table read)) (λ def. T (is_sorted key_cmp (keyed def rows)))

-- where own writes have the rows before of tables in which a read has these rows, they still have them
abbrev pub KeepsFound : Read → List Seen → Written → Written → Type 0
KeepsFound read rows old new = (declared : List TableDef) (tables : Tables) → rows ≡ rows_in declared read tables → AreFound declared tables old → AreFound declared tables new

-- a step that was made is the one that is meant, but where memory runs out
abbrev pub Ends : Result (Unit {0}) Halt → State → Progress → Type 0
Ends (Ok done) reached meant = meant ≡ Going reached
Ends (Err halt.NoMemory) reached meant = Unit {0}
Ends (Err (halt.Stop why)) reached meant = meant ≡ Stopped reached why

-- what goes on after a step is what is meant, but where memory runs out
abbrev pub Comes : Result (Unit {0}) Halt → Progress → State → Progress → Type 0
Comes (Ok done) going reached meant = going ≡ meant
Comes (Err halt.NoMemory) going reached meant = Unit {0}
Comes (Err (halt.Stop why)) going reached meant = Stopped reached why ≡ meant
