-- Assignments of a block are done at once, and so are the rows of a `for` whose block is assignments.
use Rattle.std.proofs.Common.{◌≡◌, ℕ, ◌+◌, ◌<◌, ◌≤◌, sym, ap, ◌∙◌, List, [], ◌∷◌, ◌++◌, drop, Option, Some, length}
use Rattle.std.specs.Prelude.{slice_get}
use Rattle.std.proofs.lemmas.List.{drop_all}
use Rattle.rel_base.specs.declared.schema.TableDef.{TableDef}
use Rattle.rel_base.specs.declared.value.Value.{Value}
use Rattle.rel_base.specs.Tables.{Tables}
use Rattle.proc_syntax.specs.Steps.{then_do, each_held}
use Rattle.proc_code.specs.declared.tree.Action.{Action}
use Rattle.proc_code.specs.Coded.{State, Progress, hold, do_all}
use Rattle.proc_run.specs.declared.path.Branch.{Branch}
use Rattle.proc_run.specs.declared.path.Branch.TheVariants.{First}
use Rattle.proc_run.specs.declared.path.Spot.{Spot}
use Rattle.proc_run.specs.declared.path.Spot.TheVariants as spot
use Rattle.proc_run.specs.Path.{part_of, block_of, frames_of}
use Rattle.proc_run.specs.declared.state.Run.{Run}
use Rattle.proc_run.specs.Remains.{state, IsSameRest, IsSameVisit, in_visit, run_frames}
use Rattle.proc_run.proofs.Paths.{one_left, a_step, then_then, block_push, path_push, block_rest}

-- ---- a path

pub as_before : (declared : List TableDef) (columns : List (List (Option ℕ))) (S : Tables) (root : List Action) (before after : List Spot) (run gone : Run) → (after ≡ before) × (gone ≡ run)
    → run_frames declared columns S (frames_of root after) (state gone) ≡ run_frames declared columns S (frames_of root before) (state run)
as_before declared columns S root before after run gone same =
    ap (λ path. run_frames declared columns S (frames_of root path) (state gone)) same.0 ∙ ap (λ run. run_frames declared columns S (frames_of root before) (state run)) same.1

-- the rest of a block, in its place on the path
pub block_moved : (declared : List TableDef) (columns : List (List (Option ℕ))) (S : Tables) (root : List Action) (ss : List Spot) (at next gone : ℕ) (branch : Branch) (block : List Action) (from to : State)
    → block ≡ part_of (block_of root ss) at branch → IsSameRest columns (drop next block) from (drop gone block) to
    → run_frames declared columns S (frames_of root (ss ++ spot.Block at branch gone ∷ [])) to ≡ run_frames declared columns S (frames_of root (ss ++ spot.Block at branch next ∷ [])) from
block_moved declared columns S root ss at next gone branch block from to here same =
    block_rest declared columns S root ss at gone branch block to here
    ∙ ap (λ o. then_do o (run_frames declared columns S (frames_of root ss))) (same declared S)
    ∙ sym (block_rest declared columns S root ss at next branch block from here)

-- ---- rows

module _ (columns : List (List (Option ℕ))) (slot table : ℕ) (body : List Action) where
  -- a row that goes into its variable, with what is done of its block
  pub visited : (rows ends : List (List Value)) (next : ℕ) (row : List Value) (rest : List Action) (from to : State) → slice_get rows next ≡ Some row → drop (next + 1) ends ≡ drop (next + 1) rows → from.steps < 100000
      → IsSameRest columns body (hold slot table row (record from { steps = from.steps + 1 })) rest to
      → IsSameVisit columns slot table body [] (drop next rows) from rest (drop (next + 1) ends) to
  visited rows ends next row rest from to here same_rows low same = λ declared S.
      let each : List (List Value) → State → Progress = each_held (hold slot table) (do_all declared columns S body) in
      ap (λ left. in_visit declared columns S slot table body rest left to) same_rows
      ∙ ap (λ o. then_do o (each (drop (next + 1) rows))) (same declared S)
      ∙ sym (a_step from (λ counted. then_do (do_all declared columns S body (hold slot table row counted)) (each (drop (next + 1) rows))) low)
      ∙ ap (λ left. each left from) (sym (one_left rows next row here))

  -- the next row, once nothing is left of the block for the one before
  pub visited_more : (first mids last : List (List Value)) (at : ℕ) (rest : List Action) (from mid to : State) → length body ≤ at
      → IsSameVisit columns slot table body [] first from (drop at body) mids mid
      → IsSameVisit columns slot table body [] mids mid rest last to
      → IsSameVisit columns slot table body [] first from rest last to
  visited_more first mids last at rest from mid to over one two = λ declared S.
      two declared S ∙ ap (λ inside. in_visit declared columns S slot table body inside mids mid) (sym (drop_all at body over)) ∙ one declared S

  -- before the first row
  pub visited_none : (rows : List (List Value)) (first at : ℕ) (from : State) → length body ≤ at → IsSameVisit columns slot table body [] (drop first rows) from (drop at body) (drop first rows) from
  visited_none rows first at from over = λ declared S. ap (λ inside. in_visit declared columns S slot table body inside (drop first rows) from) (drop_all at body over)

  module _ (declared : List TableDef) (S : Tables) (root : List Action) (ss : List Spot) (at : ℕ) (rows ends : List (List Value)) (next gone statement : ℕ) (from to : State) (is_body : body ≡ part_of (block_of root ss) at First) where
    abbrev runs : List Spot → State → Progress
    runs path = run_frames declared columns S (frames_of root path)

    abbrev over : List (List Value) → ℕ → List Spot
    over rows next = ss ++ spot.Loop at slot table rows next ∷ []

    abbrev inside_at : List Action → State → Progress
    inside_at inside st = then_do (in_visit declared columns S slot table body inside (drop gone ends) st) (runs ss)

    loop_at : (rows : List (List Value)) (next : ℕ) (st : State) → runs (over rows next) st ≡ then_do (in_visit declared columns S slot table body [] (drop next rows) st) (runs ss)
    loop_at rows next st =
        path_push declared columns S root ss (spot.Loop at slot table rows next) st
        ∙ ap (λ b. then_do (each_held (hold slot table) (do_all declared columns S b) (drop next rows) st) (runs ss)) (sym is_body)

    inside_is : runs (over ends gone ++ spot.Block at First statement ∷ []) to ≡ inside_at (drop statement body) to
    inside_is =
        path_push declared columns S root (over ends gone) (spot.Block at First statement) to
        ∙ ap (λ b. then_do (do_all declared columns S (drop statement (part_of b at First)) to) (runs (over ends gone))) (block_push root ss (spot.Loop at slot table ends gone))
        ∙ ap (λ b. then_do (do_all declared columns S (drop statement b) to) (runs (over ends gone))) (sym is_body)
        ∙ ap (then_do (do_all declared columns S (drop statement body) to)) (λ i st. loop_at ends gone st i)
        ∙ sym (then_then (do_all declared columns S (drop statement body) to) (each_held (hold slot table) (do_all declared columns S body) (drop gone ends)) (runs ss))

    -- the rows that are left, and what is left of the block for a row, in their places on the path
    pub visit_goes : IsSameVisit columns slot table body [] (drop next rows) from (drop statement body) (drop gone ends) to → runs (over ends gone ++ spot.Block at First statement ∷ []) to ≡ runs (over rows next) from
    visit_goes same = inside_is ∙ ap (λ o. then_do o (runs ss)) (same declared S) ∙ sym (loop_at rows next from)

    -- the rows that are left alone
    pub visit_rests : length body ≤ statement → IsSameVisit columns slot table body [] (drop next rows) from (drop statement body) (drop gone ends) to → runs (over ends gone) to ≡ runs (over rows next) from
    visit_rests none same =
        loop_at ends gone to ∙ ap (λ inside. inside_at inside to) (sym (drop_all statement body none)) ∙ ap (λ o. then_do o (runs ss)) (same declared S) ∙ sym (loop_at rows next from)
