-- Each event keeps what is recorded of a job fitting.
use Rattle.std.proofs.Common.{Bool, IsSome, List, None, Option, Some, [], ap, append-nil, append_assoc, arith, cond, false, inl, inr, length, length-append, refl, slice_get, subst, sym, true, ◌&&◌, ◌++◌, ◌||◌, ◌∙◌, ◌≡◌, ◌≤◌, ◌⊎◌, ◌∷◌, ℕ}
use Rattle.node_model.specs.Decide.{run_at}
use Rattle.node_model.specs.Events.{claimed, drop_over, dropped, ended, finished, is_settled, made_at, next_read, read_on, record_read, released}
use Rattle.node_model.specs.History.{SealedBlock, snapshot, time_at}
use Rattle.node_model.specs.World.{Done, Held, Job, Record, is_done, is_held, is_waiting, new_job}
use Rattle.proc_syntax.proofs.Runs.{reads_are_rows}
use Rattle.proc_syntax.specs.Call.{call_fault}
use Rattle.proc_syntax.specs.Declaring.{tables_of}
use Rattle.proc_syntax.specs.declared.call.Tx.{Tx}
use Rattle.proc_syntax.specs.declared.run.Ran.{Ran}
use Rattle.proc_syntax.specs.declared.tree.App.{App}
use Rattle.rel_base.specs.Among.{rows_in}
use Rattle.rel_base.specs.declared.access.Made.{Made}
use Rattle.rel_base.specs.declared.access.Read.{Read}
use Rattle.schedule_laws.proofs.Chains.{hit-more}
use Rattle.schedule_laws.specs.Facts.{JobFits}
use Rattle.schedule_laws.specs.Records.{IsCut}
use Rattle.schedule_laws.specs.Stable.{ShowsSame}
use Rattle.std.proofs.lemmas.Bool.{false≢true, or_left, or_right}
use Rattle.std.proofs.lemmas.Option.{get_or_from_slice_get, none-some, slice_get_past, slice_get_within}
use Rattle.std.specs.Option.{is_some, option_map}
use mathlib.Core.List.{IsPrefix}

-- ---- the first reads of a run

get-seam : (xs ys : List Made) (y : Made) → slice_get (xs ++ y ∷ ys) (length xs) ≡ Some y
get-seam [] ys y = refl
get-seam (x ∷ xs) ys y = get-seam xs ys y

get-end : (xs : List Made) → slice_get (xs ++ []) (length xs) ≡ None
get-end xs = ap (λ l. slice_get l (length xs)) (append-nil xs) ∙ slice_get_past xs (length xs) (omega arith)

abbrev read_after : List Made → List Made → Option Read
read_after reads all = option_map (λ made. made.read) (slice_get all (length reads))

-- the read that comes after the first ones, which then are one more
record IsNextMade (reads all : List Made) : Type 0 where
  pub made : Made
  pub is : slice_get all (length reads) ≡ Some made
  pub front : IsPrefix (reads ++ made ∷ []) all

next_of : (reads all : List Made) → IsPrefix reads all → IsSome (read_after reads all) → IsNextMade reads all
next_of reads all front some = by front.0 front.1 some where
  by : (rest : List Made) → reads ++ rest ≡ all → IsSome (read_after reads all) → IsNextMade reads all
  by [] is some = absurd (false≢true (sym (ap (λ o. is_some (option_map (λ (made : Made). made.read) o)) (ap (λ l. slice_get l (length reads)) (sym is) ∙ get-end reads)) ∙ some))
  by (y ∷ ys) is some = record {
    made = y;
    is = ap (λ l. slice_get l (length reads)) (sym is) ∙ get-seam reads ys y;
    front = (ys, append_assoc reads (y ∷ []) ys ∙ is);
  }

-- where no read comes after the first ones, they are all
all_read : (reads all : List Made) → IsPrefix reads all → read_after reads all ≡ None → reads ≡ all
all_read reads all front none = by front.0 front.1 where
  by : (rest : List Made) → reads ++ rest ≡ all → reads ≡ all
  by [] is = sym (append-nil reads) ∙ is
  by (y ∷ ys) is = absurd (none-some y.read (sym none ∙ ap (option_map (λ (made : Made). made.read)) (ap (λ l. slice_get l (length reads)) (sym is) ∙ get-seam reads ys y)))

-- a read with its rows in the tables of the height is the read as the run makes it
made_same : (app : App) (sealed : List SealedBlock) (tx : Tx) (place : ℕ) (made : Made) → slice_get (run_at app sealed tx).reads place ≡ Some made → made_at app sealed tx made.read ≡ made
made_same app sealed tx place made here =
    let within = slice_get_within (run_at app sealed tx).reads place made here in
    let rows = reads_are_rows app tx (time_at tx.height sealed) (snapshot tx.height sealed) place made within in
    let at = get_or_from_slice_get (run_at app sealed tx).reads place made made here in
    let is : made.rows ≡ rows_in (tables_of app) made.read (snapshot tx.height sealed) = subst (λ (m : Made). m.rows ≡ rows_in (tables_of app) m.read (snapshot tx.height sealed)) at rows in
    λ i. record { read = made.read; rows = sym is i }

-- ---- later blocks

module _ (app : App) (sealed more : List SealedBlock) (shows : ShowsSame app sealed (sealed ++ more)) where
  cut-later : (tx : Tx) (reads : List Made) → tx.height ≤ length sealed → IsCut app sealed tx reads → IsCut app (sealed ++ more) tx reads
  cut-later tx reads low cut = record {
    before = cut.before;
    last = cut.last;
    ends = cut.ends;
    front = subst (λ (ran : Ran). IsPrefix reads ran.reads) (sym (shows.runs tx low)) cut.front;
    hit = hit-more app sealed more tx cut.last.read cut.hit;
  }

  -- where the id of the job is not settled by the new blocks, or its status does not tell
  fits-later : (job : Job) → ((is_waiting job.status || is_done job.status) ≡ true → is_settled job.tx.id (sealed ++ more) ≡ false) → JobFits app sealed job → JobFits app (sealed ++ more) job
  fits-later job none fits = record {
    begins = fits.begins;
    unsettled = none;
    low = λ e. let low = fits.low e in let longer = length-append sealed more in omega (arith, low, longer);
    fresh = fits.fresh;
    front = λ e. subst (λ (ran : Ran). IsPrefix job.recorded.ran.reads ran.reads) (sym (shows.runs job.tx (fits.low (or_left (is_held job.status) (is_done job.status) e)))) (fits.front e);
    whole = λ e c. fits.whole e c ∙ sym (shows.runs job.tx (fits.low (or_right (is_held job.status) (is_done job.status) e)));
    cut_low = λ e. let low = fits.cut_low e in let longer = length-append sealed more in omega (arith, low, longer);
    cut = λ e. cut-later job.tx job.recorded.ran.reads (fits.cut_low e) (fits.cut e);
  }

-- ---- each change of a job

module _ (app : App) (sealed : List SealedBlock) where
  pub new_fits : (tx : Tx) → call_fault app tx ≡ None → is_settled tx.id sealed ≡ false → JobFits app sealed (new_job tx)
  new_fits tx begins none = record {
    begins = begins;
    unsettled = λ e. none;
    low = λ e. absurd (false≢true e);
    fresh = λ e. refl;
    front = λ e. absurd (false≢true e);
    whole = λ e c. absurd (false≢true e);
    cut_low = λ e. absurd (false≢true e);
    cut = λ e. absurd (false≢true e);
  }

  dropped_fits : (job : Job) → JobFits app sealed job → JobFits app sealed (dropped job)
  dropped_fits job fits = record {
    begins = fits.begins;
    unsettled = λ e. absurd (false≢true e);
    low = λ e. absurd (false≢true e);
    fresh = λ e. absurd (false≢true e);
    front = λ e. absurd (false≢true e);
    whole = λ e c. absurd (false≢true e);
    cut_low = fits.cut_low;
    cut = fits.cut;
  }

  pub claimed_fits : (actor : ℕ) (job : Job) → job.tx.height ≤ length sealed → JobFits app sealed job → JobFits app sealed (claimed actor job)
  claimed_fits actor job low fits = record {
    begins = fits.begins;
    unsettled = λ e. absurd (false≢true e);
    low = λ e. low;
    fresh = λ e. absurd (false≢true e);
    front = λ e. ((run_at app sealed job.tx).reads, refl);
    whole = λ e c. absurd (false≢true e);
    cut_low = λ e. absurd (false≢true e);
    cut = λ e. absurd (false≢true e);
  }

  held_low : (actor : ℕ) (job : Job) → job.status ≡ Held actor → JobFits app sealed job → job.tx.height ≤ length sealed
  held_low actor job held fits = fits.low (or_left (is_held job.status) (is_done job.status) (ap is_held held))

  pub read_fits : (actor : ℕ) (job : Job) → job.status ≡ Held actor → IsSome (next_read app sealed job) → JobFits app sealed job → JobFits app sealed (read_on app sealed job)
  read_fits actor job held some fits =
      subst (λ o. JobFits app sealed (record_read app sealed job o)) (sym next) (record {
        begins = fits.begins;
        unsettled = fits.unsettled;
        low = fits.low;
        fresh = λ e. absurd (false≢true (sym (ap is_waiting held) ∙ e));
        front = λ e. front;
        whole = λ e c. absurd (false≢true (sym (ap is_done held) ∙ e));
        cut_low = λ e. held_low actor job held fits;
        cut = λ e. record { before = job.recorded.ran.reads; last = made_at app sealed job.tx n.made.read; ends = refl; front = front; hit = e };
      })
    where
      n : IsNextMade job.recorded.ran.reads (run_at app sealed job.tx).reads
      n = next_of job.recorded.ran.reads (run_at app sealed job.tx).reads (fits.front (ap is_held held)) some

      next : next_read app sealed job ≡ Some n.made.read
      next = ap (option_map (λ (made : Made). made.read)) n.is

      front : IsPrefix (job.recorded.ran.reads ++ made_at app sealed job.tx n.made.read ∷ []) (run_at app sealed job.tx).reads
      front = subst (λ made. IsPrefix (job.recorded.ran.reads ++ made ∷ []) (run_at app sealed job.tx).reads) (sym (made_same app sealed job.tx (length job.recorded.ran.reads) n.made n.is)) n.front

  abbrev IsAtEnd : Job → Type 0
  IsAtEnd job = (job.recorded.cut ≡ true) ⊎ (next_read app sealed job ≡ None)

  abbrev done_with : Job → Record → Job
  done_with job recorded = record { tx = job.tx; status = Done; recorded = recorded }

  done_fits : (actor : ℕ) (job : Job) → job.status ≡ Held actor → IsAtEnd job → JobFits app sealed job → is_settled job.tx.id sealed ≡ false
      → JobFits app sealed (done_with job (ended job.recorded (run_at app sealed job.tx)))
  done_fits actor job held at_end fits none = by job.recorded.cut refl where
    all : job.recorded.cut ≡ false → job.recorded.ran.reads ≡ (run_at app sealed job.tx).reads
    all whole = elim at_end [
      | inl cut ↦ absurd (false≢true (sym whole ∙ cut))
      | inr none ↦ all_read job.recorded.ran.reads (run_at app sealed job.tx).reads (fits.front (ap is_held held)) none
    ]

    by : (c : Bool) → job.recorded.cut ≡ c
        → JobFits app sealed (done_with job (cond c job.recorded (record {
          ran = record { reads = job.recorded.ran.reads; writes = (run_at app sealed job.tx).writes; ending = (run_at app sealed job.tx).ending };
          cut = job.recorded.cut;
        })))
    by true is = record {
      begins = fits.begins;
      unsettled = λ e. none;
      low = λ e. held_low actor job held fits;
      fresh = λ e. absurd (false≢true e);
      front = λ e. absurd (false≢true e);
      whole = λ e c. absurd (false≢true (sym c ∙ is));
      cut_low = fits.cut_low;
      cut = fits.cut;
    }
    by false is = record {
      begins = fits.begins;
      unsettled = λ e. none;
      low = λ e. held_low actor job held fits;
      fresh = λ e. absurd (false≢true e);
      front = λ e. absurd (false≢true e);
      whole = λ e c. ap (λ reads. record { reads = reads; writes = (run_at app sealed job.tx).writes; ending = (run_at app sealed job.tx).ending }) (all is);
      cut_low = λ e. absurd (false≢true (sym is ∙ e));
      cut = λ e. absurd (false≢true (sym is ∙ e));
    }

  -- a job that is dropped where its id is settled
  unless_settled : (job other : Job) → JobFits app sealed job → (is_settled job.tx.id sealed ≡ false → JobFits app sealed other)
      → JobFits app sealed (cond (is_settled job.tx.id sealed) (dropped job) other)
  unless_settled job other fits else = by (is_settled job.tx.id sealed) refl where
    by : (b : Bool) → is_settled job.tx.id sealed ≡ b → JobFits app sealed (cond b (dropped job) other)
    by true is = dropped_fits job fits
    by false is = else is

  pub finished_fits : (actor : ℕ) (job : Job) → job.status ≡ Held actor → IsAtEnd job → JobFits app sealed job → JobFits app sealed (finished app sealed job)
  finished_fits actor job held at_end fits = unless_settled job (done_with job (ended job.recorded (run_at app sealed job.tx))) fits (done_fits actor job held at_end fits)

  pub released_fits : (job : Job) → JobFits app sealed job → JobFits app sealed (released sealed job)
  released_fits job fits = unless_settled job (new_job job.tx) fits (new_fits job.tx fits.begins)

-- ---- later blocks, at which jobs of settled ids are dropped

module _ (app : App) (sealed more : List SealedBlock) (shows : ShowsSame app sealed (sealed ++ more)) where
  pub over_fits : (job : Job) → JobFits app sealed job → JobFits app (sealed ++ more) (drop_over (sealed ++ more) job)
  over_fits job fits = by (is_waiting job.status || is_done job.status) (is_settled job.tx.id (sealed ++ more)) refl refl where
    by : (a b : Bool) → (is_waiting job.status || is_done job.status) ≡ a → is_settled job.tx.id (sealed ++ more) ≡ b → JobFits app (sealed ++ more) (cond (a && b) (dropped job) job)
    by false b told is = fits-later app sealed more shows job (λ e. absurd (false≢true (sym told ∙ e))) fits
    by true false told is = fits-later app sealed more shows job (λ e. is) fits
    by true true told is = record {
      begins = fits.begins;
      unsettled = λ e. absurd (false≢true e);
      low = λ e. absurd (false≢true e);
      fresh = λ e. absurd (false≢true e);
      front = λ e. absurd (false≢true e);
      whole = λ e c. absurd (false≢true e);
      cut_low = λ e. let low = fits.cut_low e in let longer = length-append sealed more in omega (arith, low, longer);
      cut = λ e. cut-later app sealed more shows job.tx job.recorded.ran.reads (fits.cut_low e) (fits.cut e);
    }
