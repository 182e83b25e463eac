-- One more spot is one more frame.
use Rattle.std.proofs.Common.{◌≡◌, ℕ, ◌+◌, ◌<◌, ◌≤◌, refl, sym, ap, ◌∙◌, List, [], ◌∷◌, ◌++◌, length, drop, add-one, true, false, Bool, cond, Ok, Err, Option, Some, None}
use Rattle.std.specs.Prelude.{◌==◌, slice_get}
use Rattle.std.proofs.lemmas.Bool.{lt-ltb, le-ltb, eqb-true}
use Rattle.std.proofs.lemmas.List.{drop_all}
use Rattle.rel_base.specs.declared.schema.TableDef.{TableDef}
use Rattle.rel_base.specs.declared.value.Value.{Value}
use Rattle.rel_base.specs.Tables.{Tables}
use Rattle.rel_base.proofs.Lists.{drop_next, item_of, nil_of}
use Rattle.proc_syntax.specs.declared.fault.Fault.TheVariants as fault
use Rattle.proc_syntax.specs.declared.run.Stop.{Stop}
use Rattle.proc_syntax.specs.declared.run.Stop.TheVariants as stop
use Rattle.proc_syntax.specs.Steps.{Going, Stopped, then_do, step_then, with_value, held_or, each_held}
use Rattle.proc_code.specs.declared.tree.Action.{Action}
use Rattle.proc_code.specs.Coded.{State, Progress, hold, do_action, do_all}
use Rattle.proc_run.specs.declared.path.Branch.{Branch}
use Rattle.proc_run.specs.declared.path.Branch.TheVariants.{First, Second}
use Rattle.proc_run.specs.declared.path.Spot.{Spot}
use Rattle.proc_run.specs.declared.path.Spot.TheVariants as spot
use Rattle.proc_run.specs.declared.plan.Plan.{Plan}
use Rattle.proc_run.specs.Path.{Frame, part_of, step_into, block_of, frame_at, frames_of}
use Rattle.proc_run.specs.Planned.{plan_of}
use Rattle.proc_run.specs.Remains.{do_plan, run_frame, run_frames, IsEntered, IsSamePath}
use Rattle.proc_run.proofs.Planning.{goes_at}

-- ---- lists

pub one_left : {X : Type 0} (xs : List X) (n : ℕ) (x : X) → slice_get xs n ≡ Some x → drop n xs ≡ x ∷ drop (n + 1) xs
one_left xs n x h = drop_next xs n x h ∙ ap (λ m. x ∷ drop m xs) (sym (add-one n))

pub none_of : {X : Type 0} (xs : List X) → (length xs == 0) ≡ true → xs ≡ []
none_of xs h = nil_of xs (eqb-true (length xs) 0 h)

-- ---- outcomes

pub then_then : (o : Progress) (f g : State → Progress) → then_do (then_do o f) g ≡ then_do o (λ st. then_do (f st) g)
then_then (Going st) f g = refl
then_then (Stopped st why) f g = refl

pub then_going : (o : Progress) → o ≡ then_do o Going
then_going (Going st) = refl
then_going (Stopped st why) = refl

pub a_step : (st : State) (go : State → Progress) → st.steps < 100000 → step_then st go ≡ go (record st { steps = st.steps + 1 })
a_step st go low = ap (λ b. cond b (go (record st { steps = st.steps + 1 })) (Stopped st (stop.Fault fault.Steps))) (lt-ltb st.steps 100000 low)

pub no_step : (st : State) (go : State → Progress) → 100000 ≤ st.steps → step_then st go ≡ Stopped st (stop.Fault fault.Steps)
no_step st go high = ap (λ b. cond b (go (record st { steps = st.steps + 1 })) (Stopped st (stop.Fault fault.Steps))) (le-ltb st.steps 100000 high)

-- ---- paths

frames_push : (block : List Action) (ss : List Spot) (s : Spot) → frames_of block (ss ++ s ∷ []) ≡ frames_of block ss ++ frame_at (block_of block ss) s ∷ []
frames_push block [] s = refl
frames_push block (t ∷ ss) s = ap (λ fs. frame_at block t ∷ fs) (frames_push (step_into block t) ss s)

pub block_push : (block : List Action) (ss : List Spot) (s : Spot) → block_of block (ss ++ s ∷ []) ≡ step_into (block_of block ss) s
block_push block [] s = refl
block_push block (t ∷ ss) s = block_push (step_into block t) ss s

module _ (declared : List TableDef) (columns : List (List (Option ℕ))) (S : Tables) where
  abbrev runs : List Frame → State → Progress
  runs = run_frames declared columns S

  abbrev runs_one : Frame → State → Progress
  runs_one = run_frame declared columns S

  run_push : (fs : List Frame) (f : Frame) (st : State) → runs (fs ++ f ∷ []) st ≡ then_do (runs_one f st) (runs fs)
  run_push [] f st = then_going (runs_one f st)
  run_push (g ∷ fs) f st = ap (λ o. then_do o (runs_one g)) (run_push fs f st) ∙ then_then (runs_one f st) (runs fs) (runs_one g)

  -- the last spot goes on first
  pub path_push : (root : List Action) (ss : List Spot) (s : Spot) (st : State) → runs (frames_of root (ss ++ s ∷ [])) st ≡ then_do (runs_one (frame_at (block_of root ss) s) st) (runs (frames_of root ss))
  path_push root ss s st = ap (λ fs. runs fs st) (frames_push root ss s) ∙ run_push (frames_of root ss) (frame_at (block_of root ss) s) st

  -- ---- a block

  pub block_rest : (root : List Action) (ss : List Spot) (at next : ℕ) (branch : Branch) (block : List Action) (st : State) → block ≡ part_of (block_of root ss) at branch
      → runs (frames_of root (ss ++ spot.Block at branch next ∷ [])) st ≡ then_do (do_all declared columns S (drop next block) st) (runs (frames_of root ss))
  block_rest root ss at next branch block st same = path_push root ss (spot.Block at branch next) st ∙ ap (λ block. then_do (do_all declared columns S (drop next block) st) (runs (frames_of root ss))) (sym same)

  module _ (root : List Action) (ss : List Spot) (at next : ℕ) (branch : Branch) (block : List Action) (st : State) (same : block ≡ part_of (block_of root ss) at branch) where
    abbrev below : State → Progress
    below = runs (frames_of root ss)

    -- a block of which nothing is left
    pub block_over : length block ≤ next → below st ≡ runs (frames_of root (ss ++ spot.Block at branch next ∷ [])) st
    block_over over = sym (block_rest root ss at next branch block st same ∙ ap (λ left. then_do (do_all declared columns S left st) below) (drop_all next block over))

    module _ (a : Action) (here : slice_get block next ≡ Some a) where
      abbrev act : State → Progress
      act = do_action declared columns S a

      abbrev rest : State → Progress
      rest st = then_do (do_all declared columns S (drop (next + 1) block) st) below

      abbrev later : State → Progress
      later = runs (frames_of root (ss ++ spot.Block at branch (next + 1) ∷ []))

      abbrev counted : State
      counted = record st { steps = st.steps + 1 }

      block_next : then_do (step_then st act) rest ≡ runs (frames_of root (ss ++ spot.Block at branch next ∷ [])) st
      block_next =
          sym (block_rest root ss at next branch block st same ∙ ap (λ left. then_do (do_all declared columns S left st) below) (one_left block next a here)
          ∙ then_then (step_then st act) (do_all declared columns S (drop (next + 1) block)) below)

      -- where no step is left
      pub block_late : 100000 ≤ st.steps → Stopped st (stop.Fault fault.Steps) ≡ runs (frames_of root (ss ++ spot.Block at branch next ∷ [])) st
      block_late high = ap (λ o. then_do o rest) (sym (no_step st act high)) ∙ block_next

      block_acts : st.steps < 100000 → then_do (act counted) rest ≡ runs (frames_of root (ss ++ spot.Block at branch next ∷ [])) st
      block_acts low = ap (λ o. then_do o rest) (sym (a_step st act low)) ∙ block_next

      -- where the statement stops the run
      pub block_stops : (why : Stop) → st.steps < 100000 → plan_of declared columns a st.environment ≡ Err why → Stopped counted why ≡ runs (frames_of root (ss ++ spot.Block at branch next ∷ [])) st
      block_stops why low stops =
          ap (λ r. then_do (with_value r counted (λ plan. do_plan declared columns S (part_of block next First) (part_of block next Second) plan counted)) rest) (sym stops)
          ∙ ap (λ o. then_do o rest) (sym (goes_at declared columns S block next a counted here)) ∙ block_acts low

      -- where it comes to a plan
      pub block_goes : (plan : Plan) → st.steps < 100000 → plan_of declared columns a st.environment ≡ Ok plan
          → then_do (do_plan declared columns S (part_of (block_of root (ss ++ spot.Block at branch (next + 1) ∷ [])) next First) (part_of (block_of root (ss ++ spot.Block at branch (next + 1) ∷ [])) next Second) plan counted) later
          ≡ runs (frames_of root (ss ++ spot.Block at branch next ∷ [])) st
      block_goes plan low goes =
          ap (λ b. then_do (do_plan declared columns S (part_of b next First) (part_of b next Second) plan counted) later) (block_push root ss (spot.Block at branch (next + 1)) ∙ sym same)
          ∙ ap (λ r. then_do (with_value r counted (λ plan. do_plan declared columns S (part_of block next First) (part_of block next Second) plan counted)) later) (sym goes)
          ∙ ap (λ o. then_do o later) (sym (goes_at declared columns S block next a counted here))
          ∙ ap (then_do (act counted)) (λ i st. block_rest root ss at (next + 1) branch block st same i)
          ∙ block_acts low

  -- ---- a block that is done, or in which there is nothing

  pub rest_done : (root : List Action) (ss : List Spot) (at next : ℕ) (branch : Branch) → length (part_of (block_of root ss) at branch) ≤ next
      → IsSamePath declared columns S root (ss ++ spot.Done at branch ∷ []) (ss ++ spot.Block at branch next ∷ [])
  rest_done root ss at next branch over = (
    block_push root ss (spot.Done at branch) ∙ sym (block_push root ss (spot.Block at branch next)),
    λ st. path_push root ss (spot.Done at branch) st
        ∙ ap (λ left. then_do (do_all declared columns S left st) (runs (frames_of root ss))) (sym (drop_all next (part_of (block_of root ss) at branch) over))
        ∙ sym (path_push root ss (spot.Block at branch next) st),
  )

  pub done_over : (root : List Action) (before ss : List Spot) (at : ℕ) (branch : Branch) (st : State) → before ≡ ss ++ spot.Done at branch ∷ []
      → runs (frames_of root ss) st ≡ runs (frames_of root before) st
  done_over root before ss at branch st was = sym (path_push root ss (spot.Done at branch) st) ∙ ap (λ path. runs (frames_of root path) st) (sym was)

  pub none_inside : (root : List Action) (ss : List Spot) (at : ℕ) (branch : Branch) → part_of (block_of root ss) at branch ≡ [] → IsEntered declared columns S root at branch ss ss
  none_inside root ss at branch empty = λ st. ap (λ block. then_do (do_all declared columns S block st) (runs (frames_of root ss))) (sym empty)

  -- ---- the rows of a `for`

  module _ (root : List Action) (ss : List Spot) (at slot table : ℕ) (rows : List (List Value)) (next : ℕ) (st : State) where
    abbrev under : State → Progress
    under = runs (frames_of root ss)

    abbrev body : State → Progress
    body = do_all declared columns S (part_of (block_of root ss) at First)

    abbrev before : Progress
    before = runs (frames_of root (ss ++ spot.Loop at slot table rows next ∷ [])) st

    -- of which none is left
    pub loop_over : length rows ≤ next → under st ≡ before
    loop_over over = sym (path_push root ss (spot.Loop at slot table rows next) st ∙ ap (λ left. then_do (each_held (hold slot table) body left st) under) (drop_all next rows over))

    loop_next : (row : List Value) → slice_get rows next ≡ Some row → then_do (step_then st (λ counted. then_do (body (hold slot table row counted)) (each_held (hold slot table) body (drop (next + 1) rows)))) under ≡ before
    loop_next row here =
        sym (path_push root ss (spot.Loop at slot table rows next) st ∙ ap (λ left. then_do (each_held (hold slot table) body left st) under) (one_left rows next row here))

    -- where no step is left
    pub loop_late : next < length rows → 100000 ≤ st.steps → Stopped st (stop.Fault fault.Steps) ≡ before
    loop_late within high =
        let row = item_of rows next within in
        ap (λ o. then_do o under) (sym (no_step st (λ counted. then_do (body (hold slot table row.0 counted)) (each_held (hold slot table) body (drop (next + 1) rows))) high)) ∙ loop_next row.0 row.1

    -- the next one
    pub loop_goes : (row : List Value) → slice_get rows next ≡ Some row → st.steps < 100000
        → runs (frames_of root ((ss ++ spot.Loop at slot table rows (next + 1) ∷ []) ++ spot.Block at First 0 ∷ [])) (hold slot table row (record st { steps = st.steps + 1 })) ≡ before
    loop_goes row here low =
        let now = hold slot table row (record st { steps = st.steps + 1 }) in
        let over = ss ++ spot.Loop at slot table rows (next + 1) ∷ [] in
        path_push root over (spot.Block at First 0) now
        ∙ ap (λ block. then_do (do_all declared columns S (part_of block at First) now) (runs (frames_of root over))) (block_push root ss (spot.Loop at slot table rows (next + 1)))
        ∙ ap (then_do (body now)) (λ i st. path_push root ss (spot.Loop at slot table rows (next + 1)) st i)
        ∙ sym (then_then (body now) (each_held (hold slot table) body (drop (next + 1) rows)) under)
        ∙ ap (λ o. then_do o under) (sym (a_step st (λ counted. then_do (body (hold slot table row counted)) (each_held (hold slot table) body (drop (next + 1) rows))) low))
        ∙ loop_next row here

  -- ---- a block of a statement

  -- the one that is chosen by a test
  pub branch_taken : (root : List Action) (ss : List Spot) (at : ℕ) (first : Bool) (branch : Branch) (st : State) → branch ≡ cond first First Second
      → then_do (do_all declared columns S (part_of (block_of root ss) at branch) st) (runs (frames_of root ss))
      ≡ then_do (cond first (do_all declared columns S (part_of (block_of root ss) at First) st) (do_all declared columns S (part_of (block_of root ss) at Second) st)) (runs (frames_of root ss))
  branch_taken root ss at true branch st is = ap (λ b. then_do (do_all declared columns S (part_of (block_of root ss) at b) st) (runs (frames_of root ss))) is
  branch_taken root ss at false branch st is = ap (λ b. then_do (do_all declared columns S (part_of (block_of root ss) at b) st) (runs (frames_of root ss))) is

  module _ (root : List Action) (ss : List Spot) (at slot table : ℕ) (seen : List (List Value)) (st : State) where
    abbrev held : Progress
    held = held_or (hold slot table) (do_all declared columns S (part_of (block_of root ss) at First)) (do_all declared columns S (part_of (block_of root ss) at Second)) seen st

    held_none : slice_get seen 0 ≡ None → do_all declared columns S (part_of (block_of root ss) at Second) st ≡ held
    held_none h = by_rows seen h
      where
        by_rows : (seen : List (List Value)) → slice_get seen 0 ≡ None → do_all declared columns S (part_of (block_of root ss) at Second) st
            ≡ held_or (hold slot table) (do_all declared columns S (part_of (block_of root ss) at First)) (do_all declared columns S (part_of (block_of root ss) at Second)) seen st
        by_rows [] h = refl
        by_rows (row ∷ rest) h = cc

    held_some : (row : List Value) → slice_get seen 0 ≡ Some row → do_all declared columns S (part_of (block_of root ss) at First) (hold slot table row st) ≡ held
    held_some row h = by_rows seen h
      where
        by_rows : (seen : List (List Value)) → slice_get seen 0 ≡ Some row → do_all declared columns S (part_of (block_of root ss) at First) (hold slot table row st)
            ≡ held_or (hold slot table) (do_all declared columns S (part_of (block_of root ss) at First)) (do_all declared columns S (part_of (block_of root ss) at Second)) seen st
        by_rows [] h = cc
        by_rows (old ∷ rest) h = let e : row ≡ old = cc in ap (λ row. do_all declared columns S (part_of (block_of root ss) at First) (hold slot table row st)) e

    -- where a key has no row
    pub enters_second : slice_get seen 0 ≡ None → runs (frames_of root (ss ++ spot.Block at Second 0 ∷ [])) st ≡ then_do held (runs (frames_of root ss))
    enters_second h = path_push root ss (spot.Block at Second 0) st ∙ ap (λ o. then_do o (runs (frames_of root ss))) (held_none h)

    -- where it has one
    pub enters_first : (row : List Value) → slice_get seen 0 ≡ Some row → runs (frames_of root (ss ++ spot.Block at First 0 ∷ [])) (hold slot table row st) ≡ then_do held (runs (frames_of root ss))
    enters_first row h = path_push root ss (spot.Block at First 0) (hold slot table row st) ∙ ap (λ o. then_do o (runs (frames_of root ss))) (held_some row h)
