-- What stays so of a machine.
use Rattle.std.proofs.Common.{◌≡◌, ◌≤◌, ◌+◌, ℕ, ℤ, arith, length, refl, ap, subst, sym, ◌∙◌, List, [], ◌∷◌, ◌++◌, true, false, Bool, None, vec_len, vec_capacity}
use Rattle.std.specs.List.{AllByRecursion}
use Rattle.std.proofs.lemmas.List.{append-nil}
use Rattle.rel_base.specs.declared.access.Made.{Made}
use Rattle.rel_base.specs.declared.access.Seen.{Seen}
use Rattle.rel_base.specs.declared.schema.TableDef.{TableDef}
use Rattle.rel_base.specs.Among.{rows_in}
use Rattle.rel_base.specs.Tables.{Tables}
use Rattle.row_sets.specs.Overlay.{AreFound}
use Rattle.proc_syntax.specs.declared.call.Tx.{Tx}
use Rattle.proc_syntax.specs.declared.tree.App.{App}
use Rattle.proc_syntax.specs.Declaring.{tables_of}
use Rattle.proc_syntax.specs.Run as meaning
use Rattle.proc_syntax.specs.Steps.{then_do}
use Rattle.proc_code.specs.declared.tree.Action.{Action}
use Rattle.proc_code.specs.declared.tree.AppCode.{AppCode}
use Rattle.proc_code.specs.Coded.{Progress, State}
use Rattle.proc_code.specs.Resolved.{code_of}
use Rattle.proc_code.proofs.Coded_runs.{code_runs}
use Rattle.proc_run.specs.declared.asked.Asked.{Asked}
use Rattle.proc_run.specs.declared.path.Branch.TheVariants.{Whole, First, Second}
use Rattle.proc_run.specs.declared.path.Spot.{Spot}
use Rattle.proc_run.specs.declared.path.Spot.TheVariants.{Block}
use Rattle.proc_run.specs.declared.state.Phase.{Phase}
use Rattle.proc_run.specs.declared.state.Phase.TheVariants as phase
use Rattle.proc_run.specs.declared.state.Run.{Run}
use Rattle.proc_run.specs.declared.state.Want.TheVariants as want
use Rattle.proc_run.specs.Path.{body_at, block_of, frames_of, part_of}
use Rattle.proc_run.specs.Remains.{state, answered, remains, run_frames, waits, has_rows, PhaseFits, StandInOrder}
use Rattle.proc_run.specs.MachineView.{Agrees, GivenInOrder, IsBegun, IsNextWant, IsSound, WantFits, given_of, held_of, read_of, want_of}
use Rattle.proc_run.proofs.Growing.{next_is, reads_are, state_of}

-- ---- lists of answers

module _ (declared : List TableDef) (S : Tables) where
  pub agrees_front : (xs ys : List Made) → Agrees declared S (xs ++ ys) → Agrees declared S xs
  agrees_front [] ys h = tt
  agrees_front (x ∷ xs) ys h = (h.0, agrees_front xs ys h.1)

  pub agrees_back : (xs ys : List Made) → Agrees declared S (xs ++ ys) → Agrees declared S ys
  agrees_back [] ys h = h
  agrees_back (x ∷ xs) ys h = agrees_back xs ys h.1

waits_none : (now : Phase) → waits now ≡ true → given_of now ≡ []
waits_none phase.Running w = refl
waits_none (phase.Ask at asked) w = refl
waits_none (phase.Answered at asked) w = cc
waits_none phase.Good w = refl
waits_none (phase.Stopped why) w = refl

pub given_none : (now : Phase) → has_rows now ≡ false → given_of now ≡ []
given_none phase.Running h = refl
given_none (phase.Ask at asked) h = refl
given_none (phase.Answered at asked) h = cc
given_none phase.Good h = refl
given_none (phase.Stopped why) h = refl

-- where no read is asked, the end is reported
pub none_wanted : (now : Phase) → read_of now ≡ None → want_of now ≡ want.Ended
none_wanted phase.Running none = refl
none_wanted (phase.Ask at asked) none = absurd (cc)
none_wanted (phase.Answered at asked) none = refl
none_wanted phase.Good none = refl
none_wanted (phase.Stopped why) none = refl

-- what is reported of a read that fits fits
pub want_fits : (declared : List TableDef) (now : Phase) → PhaseFits declared now → WantFits declared (want_of now)
want_fits declared phase.Running h = tt
want_fits declared (phase.Ask at asked) h = h
want_fits declared (phase.Answered at asked) h = tt
want_fits declared phase.Good h = tt
want_fits declared (phase.Stopped why) h = tt

module _ (app : App) (tx : Tx) (time : ℤ) (number : ℕ) where
  abbrev declared : List TableDef
  declared = tables_of app

  abbrev left : Tables → Phase → List Spot → Run → Progress
  left S now path going = remains declared (code_of app).columns S (body_at (code_of app) number) now path (state going)

  -- what was reported may be reported again
  pub sound_told : (now : Phase) (path : List Spot) (going : Run) (told : Bool) → IsSound app tx time number now path going false → waits now ≡ true → IsSound app tx time number now path going told
  sound_told now path going told s w = record { follows = s.follows; found = s.found; steps = s.steps; fits = s.fits; order = s.order; room = s.room; waiting = λ t. w }

  pub sound_untold : (now : Phase) (path : List Spot) (going : Run) (told : Bool) → IsSound app tx time number now path going told → IsSound app tx time number now path going false
  sound_untold now path going told s = record { follows = s.follows; found = s.found; steps = s.steps; fits = s.fits; order = s.order; room = s.room; waiting = λ t. cc }

  -- where what remains is what remained, and the answers are the same
  pub sound_moved : (now after : Phase) (path path_after : List Spot) (going gone : Run) → IsSound app tx time number now path going false
      → ((S : Tables) → left S after path_after gone ≡ left S now path going)
      → gone.made.items ++ given_of after ≡ going.made.items ++ given_of now
      → ((S : Tables) → Agrees declared S (given_of now) → AreFound declared S going.own → AreFound declared S gone.own)
      → gone.steps ≤ 100000 → PhaseFits declared after → GivenInOrder declared after → vec_len gone.made + held_of after ≤ vec_capacity gone.made
      → IsSound app tx time number after path_after gone false
  sound_moved now after path path_after going gone s same fed found steps fits order room = record {
    follows = λ S a. ap (meaning.ran declared S) (same S) ∙ s.follows S (subst (Agrees declared S) fed a);
    found = λ S a.
        let b : Agrees declared S (going.made.items ++ given_of now) = subst (Agrees declared S) fed a in
        found S (agrees_back declared S going.made.items (given_of now) b) (s.found S b);
    steps = steps;
    fits = fits;
    order = order;
    room = room;
    waiting = λ t. cc;
  }

  -- the same, of declarations, code and statements that are those of the application
  pub sound_gone : (tables : List TableDef) (code : AppCode) (root : List Action) (now after : Phase) (path path_before path_after : List Spot) (going gone : Run) (st : State)
      → tables ≡ tables_of app → code ≡ code_of app → root ≡ body_at code number → path_before ≡ path → st ≡ state going
      → IsSound app tx time number now path going false
      → ((S : Tables) → remains tables code.columns S root after path_after (state gone) ≡ remains tables code.columns S root now path_before st)
      → gone.made.items ++ given_of after ≡ going.made.items ++ given_of now
      → ((S : Tables) → Agrees declared S (given_of now) → AreFound declared S going.own → AreFound declared S gone.own)
      → gone.steps ≤ 100000 → PhaseFits tables after → has_rows after ≡ false → vec_len gone.made + held_of after ≤ vec_capacity gone.made
      → IsSound app tx time number after path_after gone false
  sound_gone tables code root now after path path_before path_after going gone st tables_are code_is root_is path_is st_is s moved fed found steps fits fresh room =
      sound_moved now after path path_after going gone s
      (λ S.
      subst (λ tables. remains tables (code_of app).columns S (body_at (code_of app) number) after path_after (state gone) ≡ remains tables (code_of app).columns S (body_at (code_of app) number) now path (state going)) tables_are
      (subst (λ code. remains tables code.columns S (body_at code number) after path_after (state gone) ≡ remains tables code.columns S (body_at code number) now path (state going)) code_is
      (subst (λ root. remains tables code.columns S root after path_after (state gone) ≡ remains tables code.columns S root now path (state going)) root_is
      (subst (λ path. remains tables code.columns S root after path_after (state gone) ≡ remains tables code.columns S root now path (state going)) path_is
      (subst (λ st. remains tables code.columns S root after path_after (state gone) ≡ remains tables code.columns S root now path_before st) st_is (moved S))))))
      fed found steps (subst (λ tables. PhaseFits tables after) tables_are fits)
      (subst (AllByRecursion (λ made. StandInOrder declared made.read made.rows)) (sym (given_none after fresh)) tt)
      room

  -- the rows of a read continue the run
  pub sound_fed : (at : ℕ) (asked : Asked) (rows : List Seen) (path : List Spot) (going : Run) (told : Bool) → IsSound app tx time number (phase.Ask at asked) path going told → StandInOrder declared asked.made.read rows
      → IsSound app tx time number (phase.Answered at (record { made = record { read = asked.made.read; rows = rows }; pending = asked.pending })) path going false
  sound_fed at asked rows path going told s order =
      let read = asked.made.read in
      let m : Made = record { read = read; rows = rows } in
      let root = body_at (code_of app) number in
      let before : (S : Tables) → Agrees declared S (going.made.items ++ m ∷ []) → Agrees declared S (going.made.items ++ []) =
      λ S a. subst (Agrees declared S) (sym (append-nil going.made.items)) (agrees_front declared S going.made.items (m ∷ []) a) in
      record {
        follows = λ S a.
            let got : rows ≡ rows_in declared read S = (agrees_back declared S going.made.items (m ∷ []) a).0 in
            ap (λ rows. meaning.ran declared S (then_do (answered declared (code_of app).columns S (part_of (block_of root path) at First) (part_of (block_of root path) at Second) read asked.pending rows (state going)) (run_frames declared (code_of app).columns S (frames_of root path)))) got
            ∙ s.follows S (before S a);
        found = λ S a. s.found S (before S a);
        steps = s.steps;
        fits = tt;
        order = (order, tt);
        room = s.room;
        waiting = λ t. cc;
      }

  -- a machine before its first step
  pub sound_begun : (code : AppCode) (now : Phase) (path : List Spot) (going : Run) → code ≡ code_of app → path ≡ Block 0 Whole 0 ∷ [] → IsBegun code tx time number now going → IsSound app tx time number now path going false
  sound_begun code now path going coded at_root b =
      let same : IsBegun (code_of app) tx time number now going = subst (λ code. IsBegun code tx time number now going) coded b in
      record {
        follows = λ S a.
            ap (λ path. meaning.ran declared S (remains declared (code_of app).columns S (body_at (code_of app) number) now path (state going))) at_root
            ∙ same.comes declared S ∙ code_runs app tx time S;
        found = λ S a. b.found declared S;
        steps = omega (arith, b.steps);
        fits = b.fits declared;
        order = subst (AllByRecursion (λ made. StandInOrder declared made.read made.rows)) (sym b.given) tt;
        room = omega (arith, b.held, ap length b.made, going.made.ok.0, going.made.ok.1);
        waiting = λ t. cc;
      }

  -- what a machine tells is the next read of the run, or its end
  pub next_told : (now : Phase) (path : List Spot) (going : Run) (told : Bool) (fed : List Made) (S : Tables) → IsSound app tx time number now path going told → waits now ≡ true → fed ≡ going.made.items ++ given_of now
      → Agrees declared S fed → IsNextWant (want_of now) declared S fed (meaning.run app tx time S).reads
  next_told now path going told fed S s w is a =
      let b : Agrees declared S (going.made.items ++ given_of now) = subst (Agrees declared S) is a in
      let made : going.made.items ≡ fed = sym (is ∙ ap (λ l. going.made.items ++ l) (waits_none now w) ∙ append-nil going.made.items) in
      let reads : (state_of (left S now path going)).made ≡ (meaning.run app tx time S).reads = sym (reads_are declared S (left S now path going)) ∙ ap (λ r. r.reads) (s.follows S b) in
      subst (λ all. IsNextWant (want_of now) declared S fed all) reads
      (subst (λ fed. IsNextWant (want_of now) declared S fed (state_of (left S now path going)).made) made (next_is declared (code_of app).columns S (body_at (code_of app) number) now path (state going) w))
