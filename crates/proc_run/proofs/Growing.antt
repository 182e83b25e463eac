-- A run of code only adds to its reads.
use Rattle.std.proofs.Common.{◌≡◌, ℕ, ◌+◌, refl, ap, subst, sym, ◌∙◌, List, [], ◌∷◌, ◌++◌, append_assoc, true, false, Bool, cond, map, Result, Ok, Err, Option, Some, None}
use Rattle.std.specs.Prelude.{nat_lt, slice_get}
use Rattle.std.proofs.lemmas.List.{append-nil}
use Rattle.rel_base.specs.declared.access.Made.{Made}
use Rattle.rel_base.specs.declared.access.Read.{Read}
use Rattle.rel_base.specs.declared.access.Read.TheVariants.{Point, Span}
use Rattle.rel_base.specs.declared.schema.TableDef.{TableDef}
use Rattle.rel_base.specs.declared.value.Value.{Value}
use Rattle.rel_base.specs.Access.{read_table}
use Rattle.rel_base.specs.Among.{rows_in}
use Rattle.rel_base.specs.OwnWrites.{merged}
use Rattle.rel_base.specs.Tables.{Tables, rows}
use Rattle.proc_syntax.specs.declared.run.Stop.{Stop}
use Rattle.proc_syntax.specs.Run.{ran}
use Rattle.proc_syntax.specs.Steps.{Going, Stopped, then_do, step_then, with_value, with_some, with_rows, asked, point_of, span_of, key_for, row_under, set_columns, insert_at, update_at, delete_at, held_or, each_held, in_turn}
use Rattle.proc_syntax.specs.Values.{flag_of}
use Rattle.proc_code.specs.declared.tree.Action.{Action, Action-F, fold-roll-Action, ind-Action, map-Action, roll-Action}
use Rattle.proc_code.specs.declared.tree.Action.TheOpen as action
use Rattle.proc_code.specs.Coded.{State, Progress, hold, table_at, worth_of, worths_of, end_worth, sets_worth, do_step, do_action, do_all}
use Rattle.proc_run.specs.declared.path.Spot.{Spot}
use Rattle.proc_run.specs.declared.plan.Pending.{Pending}
use Rattle.proc_run.specs.declared.plan.Pending.TheVariants.{Insert, Update, Delete, Get, For}
use Rattle.proc_run.specs.declared.state.Phase.{Phase}
use Rattle.proc_run.specs.declared.state.Phase.TheVariants as phase
use Rattle.proc_run.specs.Path.{Frame, Rest, Rows, part_of, block_of, frames_of}
use Rattle.proc_run.specs.declared.path.Branch.TheVariants.{First, Second}
use Rattle.proc_run.specs.Remains.{waits, seen_in, resume, answered, run_frame, run_frames, remains}
use Rattle.proc_run.specs.MachineView.{IsNextWant, want_of}

abbrev pub state_of : Progress → State
state_of (Going st) = st
state_of (Stopped st why) = st

-- o is of a run that had made these reads
pub record Grows (made : List Made) (o : Progress) : Type 0 where
  pub more : List Made
  pub is : (state_of o).made ≡ made ++ more

grows_same : (made : List Made) (o : Progress) → (state_of o).made ≡ made → Grows made o
grows_same made o e = record { more = []; is = e ∙ sym (append-nil made) }

grows_then : (made : List Made) (o : Progress) (f : State → Progress) → Grows made o → ((st : State) → Grows st.made (f st)) → Grows made (then_do o f)
grows_then made (Going st) f g h = record { more = g.more ++ (h st).more; is = (h st).is ∙ ap (λ l. l ++ (h st).more) g.is ∙ append_assoc made g.more (h st).more }
grows_then made (Stopped st why) f g h = record { more = g.more; is = g.is }

grows_cond : (made : List Made) (b : Bool) (o p : Progress) → Grows made o → Grows made p → Grows made (cond b o p)
grows_cond made true o p g h = g
grows_cond made false o p g h = h

grows_step : (st : State) (f : State → Progress) → ((st : State) → Grows st.made (f st)) → Grows st.made (step_then st f)
grows_step st f h = grows_cond st.made (nat_lt st.steps 100000) _ _ (h (record st { steps = st.steps + 1 })) (grows_same st.made _ refl)

grows_value : {A : Type 0} (r : Result A Stop) (st : State) (f : A → Progress) → ((v : A) → Grows st.made (f v)) → Grows st.made (with_value r st f)
grows_value (Ok v) st f h = h v
grows_value (Err why) st f h = grows_same st.made _ refl

grows_some : {A : Type 0} (o : Option A) (st : State) (f : A → Progress) → ((v : A) → Grows st.made (f v)) → Grows st.made (with_some o st f)
grows_some (Some v) st f h = h v
grows_some None st f h = grows_same st.made _ refl

-- after a read, the read is among them
grows_read : (made : List Made) (m : Made) (o : Progress) → Grows (made ++ m ∷ []) o → Grows made o
grows_read made m o g = record { more = m ∷ g.more; is = g.is ∙ append_assoc made (m ∷ []) g.more }

abbrev Always : (State → Progress) → Type 0
Always f = (st : State) → Grows st.made (f st)

grows_each : (slot table : ℕ) (body : State → Progress) → Always body → (rows : List (List Value)) → Always (each_held (hold slot table) body rows)
grows_each slot table body h [] st = grows_same st.made _ refl
grows_each slot table body h (row ∷ rest) st = grows_step st _ (λ st. grows_then st.made (body (hold slot table row st)) _ (h (hold slot table row st)) (grows_each slot table body h rest))

grows_held : (slot table : ℕ) (f g : State → Progress) → Always f → Always g → (rows : List (List Value)) → Always (held_or (hold slot table) f g rows)
grows_held slot table f g h k [] st = k st
grows_held slot table f g h k (row ∷ rest) st = h (hold slot table row st)

grows_insert : (table : ℕ) (key row : List Value) (rows : List (List Value)) → Always (insert_at table key row rows)
grows_insert table key row [] st = grows_same st.made _ refl
grows_insert table key row (old ∷ rest) st = grows_same st.made _ refl

grows_update : (def : TableDef) (table : ℕ) (key : List Value) (changes : List (ℕ × Value)) (rows : List (List Value)) → Always (update_at def table key changes rows)
grows_update def table key changes [] st = grows_same st.made _ refl
grows_update def table key changes (row ∷ rest) st = grows_some (row_under def key (set_columns row changes)) st _ (λ new. grows_same st.made _ refl)

grows_delete : (table : ℕ) (key : List Value) (rows : List (List Value)) → Always (delete_at table key rows)
grows_delete table key [] st = grows_same st.made _ refl
grows_delete table key (row ∷ rest) st = grows_same st.made _ refl

module _ (declared : List TableDef) (columns : List (List (Option ℕ))) (S : Tables) where
  abbrev performs : Action → State → Progress
  performs = do_action declared columns S

  -- a statement, and that it only adds
  abbrev Such : Type 0
  Such = (a : Action) × Always (performs a)

  abbrev bare : Such → Action
  bare e = e.0

  grows_rows : (def : TableDef) (read : Read) (f : List (List Value) → State → Progress) → ((rows : List (List Value)) → Always (f rows)) → Always (λ st. with_rows S def read st f)
  grows_rows def read f h st =
      grows_read st.made (record { read = read; rows = rows def read S }) _ (h (merged def read st.own (rows def read S)) (asked st read (rows def read S)))

  grows_turns : (es : List Such) → Always (in_turn (map performs (map bare es)))
  grows_turns [] st = grows_same st.made _ refl
  grows_turns (e ∷ es) st = grows_then st.made (step_then st (performs e.0)) _ (grows_step st (performs e.0) e.1) (grows_turns es)

  grows_form : (d : Action-F Such) → Always (do_step declared columns S (map-Action Action (State → Progress) performs (map-Action Such Action bare d)))
  grows_form (action.Set slot e) st = grows_value (worth_of columns e st.environment) st _ (λ v. grows_same st.made _ refl)
  grows_form (action.If test body other) st =
      grows_value (worth_of columns test st.environment) st _ (λ v. grows_value (flag_of v) st _ (λ holds. grows_cond st.made holds _ _ (grows_turns body st) (grows_turns other st)))
  grows_form (action.Get slot table key some none) st =
      grows_some (table_at declared table) st _ (λ named. grows_value (worths_of columns key st.environment) st _ (λ key. grows_some (point_of named.1 named.0 key) st _ (λ read.
      grows_rows named.1 read _ (grows_held slot named.0 _ _ (grows_turns some) (grows_turns none)) st)))
  grows_form (action.For slot table column low high body) st =
      grows_some (table_at declared table) st _ (λ named. grows_value (end_worth columns low st.environment) st _ (λ low. grows_value (end_worth columns high st.environment) st _ (λ high.
      grows_some (span_of named.1 named.0 column low high) st _ (λ read. grows_rows named.1 read _ (grows_each slot named.0 _ (grows_turns body)) st))))
  grows_form (action.Insert table values) st =
      grows_some (table_at declared table) st _ (λ named. grows_value (worths_of columns values st.environment) st _ (λ row. grows_some (key_for named.1 row) st _ (λ key.
      grows_rows named.1 (Point named.0 key) _ (grows_insert named.0 key row) st)))
  grows_form (action.Update table key settings) st =
      grows_some (table_at declared table) st _ (λ named. grows_value (worths_of columns key st.environment) st _ (λ key. grows_value (sets_worth columns settings st.environment) st _ (λ changes.
      grows_some (point_of named.1 named.0 key) st _ (λ read. grows_rows named.1 read _ (grows_update named.1 named.0 key changes) st))))
  grows_form (action.Delete table key) st =
      grows_some (table_at declared table) st _ (λ named. grows_value (worths_of columns key st.environment) st _ (λ key. grows_some (point_of named.1 named.0 key) st _ (λ read.
      grows_rows named.1 read _ (grows_delete named.0 key) st)))
  grows_form (action.Fail text) st = grows_same st.made _ refl

  grows_act : (a : Action) → Always (performs a)
  grows_act = ind-Action (λ a. Always (performs a)) (λ x y e. subst (λ x. Always (performs (roll-Action x))) e
      (subst Always (sym (fold-roll-Action (State → Progress) (do_step declared columns S) (map-Action Such Action bare y))) (grows_form y)))

  grows_all : (actions : List Action) → Always (do_all declared columns S actions)
  grows_all [] st = grows_same st.made _ refl
  grows_all (a ∷ rest) st = grows_then st.made (step_then st (performs a)) _ (grows_step st (performs a) (grows_act a)) (grows_all rest)

  grows_resume : (first second : List Action) (read : Read) (what : Pending) (seen : List (List Value)) → Always (resume declared columns S first second read what seen)
  grows_resume first second (Point table key) (Insert row) seen st = grows_insert table key row seen st
  grows_resume first second (Span table column low high) (Insert row) seen st = grows_same st.made _ refl
  grows_resume first second (Point table key) (Update changes) seen st = grows_some (slice_get declared table) st _ (λ def. grows_update def table key changes seen st)
  grows_resume first second (Span table column low high) (Update changes) seen st = grows_same st.made _ refl
  grows_resume first second (Point table key) Delete seen st = grows_delete table key seen st
  grows_resume first second (Span table column low high) Delete seen st = grows_same st.made _ refl
  grows_resume first second read (Get slot) seen st = grows_held slot (read_table read) _ _ (grows_all first) (grows_all second) seen st
  grows_resume first second read (For slot) seen st = grows_each slot (read_table read) _ (grows_all first) seen st

  grows_frame : (f : Frame) → Always (run_frame declared columns S f)
  grows_frame (Rest actions) st = grows_all actions st
  grows_frame (Rows slot table rows body) st = grows_each slot table _ (grows_all body) rows st

  grows_frames : (fs : List Frame) → Always (run_frames declared columns S fs)
  grows_frames [] st = grows_same st.made _ refl
  grows_frames (f ∷ fs) st = grows_then st.made (run_frames declared columns S fs st) _ (grows_frames fs st) (grows_frame f)

  -- what a run waits for is its next read, or its end
  pub next_is : (root : List Action) (now : Phase) (path : List Spot) (st : State) → waits now ≡ true
      → IsNextWant (want_of now) declared S st.made (state_of (remains declared columns S root now path st)).made
  next_is root phase.Running path st w = cc
  next_is root (phase.Ask at asked_now) path st w =
      let read = asked_now.made.read in
      let what = asked_now.pending in
      let got : Made = record { read = read; rows = rows_in declared read S } in
      let first = part_of (block_of root path) at First in
      let second = part_of (block_of root path) at Second in
      let g = grows_then (st.made ++ got ∷ []) (answered declared columns S first second read what got.rows st) (run_frames declared columns S (frames_of root path))
      (grows_resume first second read what (seen_in declared read st.own got.rows) (asked st read got.rows)) (grows_frames (frames_of root path)) in
      (g.more, g.is ∙ append_assoc st.made (got ∷ []) g.more)
  next_is root (phase.Answered at asked_now) path st w = cc
  next_is root phase.Good path st w = refl
  next_is root (phase.Stopped why) path st w = refl

pub reads_are : (declared : List TableDef) (S : Tables) (o : Progress) → (ran declared S o).reads ≡ (state_of o).made
reads_are declared S (Going st) = refl
reads_are declared S (Stopped st why) = refl
