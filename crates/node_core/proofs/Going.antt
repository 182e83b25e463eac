-- What a held job may ask of its node: its next read, or its end.
use Rattle.std.proofs.Common.{All, Bool, IsSome, List, None, Option, Some, ap, arith, false, inl, inr, length, refl, slice_get, subst, sym, true, ◌++◌, ◌||◌, ◌∙◌, ◌≡◌, ◌⊎◌, ◌∷◌, [], ℤ}
use Rattle.std.proofs.lemmas.Bool.{false≢true}
use Rattle.std.proofs.lemmas.List.Elements.{All-head, All-tail}
use Rattle.std.proofs.lemmas.Option.{none-some, slice_get_past}
use Rattle.std.specs.List.{AllByRecursion}
use Rattle.std.specs.Option.{is_some, option_map}
use Rattle.node_core.specs.Core.{Core, IsHeld, world_of}
use Rattle.node_core.specs.Hands.{GoesOn}
use Rattle.node_core.specs.InHand.{AreAllReads, InHand, IsInHand, IsNextRead, job_in, run_on}
use Rattle.node_core.specs.declared.answers.Next.TheVariants as next
use Rattle.node_model.specs.Decide.{run_at}
use Rattle.node_model.specs.Events.{next_read}
use Rattle.node_model.specs.History.{snapshot, time_at}
use Rattle.node_model.specs.Journals.{IsLegal}
use Rattle.proc_run.specs.MachineView.{Agrees}
use Rattle.proc_syntax.proofs.Runs.{reads_are_rows}
use Rattle.proc_syntax.specs.Declaring.{tables_of}
use Rattle.proc_syntax.specs.Run.{run}
use Rattle.proc_syntax.specs.declared.call.Tx.{Tx}
use Rattle.proc_syntax.specs.declared.run.Ran.{Ran}
use Rattle.proc_syntax.specs.declared.tree.App.{App}
use Rattle.rel_base.specs.Among.{rows_in}
use Rattle.rel_base.specs.Tables.{Tables}
use Rattle.rel_base.specs.declared.access.Made.{Made}
use Rattle.rel_base.specs.declared.access.Read.{Read}
use Rattle.schedule_laws.proofs.Facts.{facts_always_hold}
use Rattle.schedule_laws.specs.Facts.{JobFits}
use mathlib.Core.List.{IsPrefix}

front_all : {X : Type 0} (P : X → Type 0) (front rest : List X) → All P (front ++ rest) → AllByRecursion P front
front_all P [] rest all = tt
front_all P (x ∷ front) rest all = (All-head P x (front ++ rest) all, front_all P front rest (All-tail P x (front ++ rest) all))

seam : (front rest : List Made) (made : Made) → slice_get (front ++ made ∷ rest) (length front) ≡ Some made
seam [] rest made = refl
seam (first ∷ front) rest made = seam front rest made

module _ (core : Core) (legal : IsLegal core.app core.journal) (work : InHand) (held : IsHeld core work) where
  -- the tables of its height
  abbrev pub tables : Tables
  tables = snapshot work.told.tx.height (world_of core).sealed

  pub run_is : run_on work.told tables ≡ run_at core.app (world_of core).sealed work.told.tx
  run_is = ap (λ (app : App). run app work.told.tx work.told.time tables) held.app ∙ ap (λ (time : ℤ). run core.app work.told.tx time tables) held.time

  pub fits : JobFits core.app (world_of core).sealed (job_in work)
  fits = (facts_always_hold core.app core.journal legal).jobs_fit work.job (job_in work) held.holds.stands

  pub front : IsPrefix work.told.fed (run_at core.app (world_of core).sealed work.told.tx).reads
  front = fits.front refl

  -- its reads so far have the rows of these tables
  pub agrees : Agrees (tables_of work.told.app) tables work.told.fed
  agrees = subst (λ (app : App). Agrees (tables_of app) tables work.told.fed) (sym held.app)
      (front_all (λ made. made.rows ≡ rows_in (tables_of core.app) made.read tables) work.told.fed front.0
      (subst (All (λ made. made.rows ≡ rows_in (tables_of core.app) made.read tables)) (sym front.1) (reads_are_rows core.app work.told.tx (time_at work.told.tx.height (world_of core).sealed) tables)))

  -- the read that it wants is the next of its run
  pub next_is : (read : Read) → IsNextRead work.told read → next_read core.app (world_of core).sealed (job_in work) ≡ Some read
  next_is read next =
      let more = next tables agrees in
      ap (λ (all : List Made). option_map (λ (made : Made). made.read) (slice_get all (length work.told.fed))) (sym (ap (λ (ran : Ran). ran.reads) run_is) ∙ more.1)
      ∙ ap (option_map (λ (made : Made). made.read)) (seam work.told.fed more.0 (record { read = read; rows = rows_in (tables_of work.told.app) read tables }))

  -- there is none where its reads so far are all
  pub none_next : AreAllReads work.told → next_read core.app (world_of core).sealed (job_in work) ≡ None
  none_next all =
      ap (λ (reads : List Made). option_map (λ (made : Made). made.read) (slice_get reads (length work.told.fed))) (sym (ap (λ (ran : Ran). ran.reads) run_is) ∙ all tables agrees)
      ∙ ap (option_map (λ (made : Made). made.read)) (slice_get_past work.told.fed (length work.told.fed) (omega arith))

-- ---- by what is kept of it

not_at_end : (cut ended : Bool) (wants : Option Read) (read : Read) → ((cut || ended) ≡ true → wants ≡ None) → wants ≡ Some read → cut ≡ false
not_at_end true ended wants read idle is = absurd (none-some read (sym (idle refl) ∙ is))
not_at_end false ended wants read idle is = refl

pub wants_goes : (tx : Tx) (work : InHand) (wants : Option Read) (ended : Bool) → IsInHand tx work.told wants ended work.cut → IsSome wants → GoesOn next.Wants work
wants_goes tx work None ended hand some core legal held = absurd (false≢true some)
wants_goes tx work (Some read) ended hand some core legal held =
    (job_in work, held.holds, not_at_end work.cut ended (Some read) read hand.idle refl, ap is_some (next_is core legal work held read hand.next))

pub ready_goes : (tx : Tx) (work : InHand) (wants : Option Read) (ended : Bool) → IsInHand tx work.told wants ended work.cut → (work.cut || ended) ≡ true → GoesOn next.Ready work
ready_goes tx work wants ended hand ready core legal held = (job_in work, held.holds, by work.cut refl)
  where
    by : (b : Bool) → work.cut ≡ b → (work.cut ≡ true) ⊎ (next_read core.app (world_of core).sealed (job_in work) ≡ None)
    by true e = inl e
    by false e = inr (none_next core legal work held (hand.all (sym (ap (λ b. b || ended) e) ∙ ready)))
