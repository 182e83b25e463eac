-- What holds in a turn.
use Rattle.std.proofs.Common.{All, Err, IfOk, List, None, Ok, OnErr, Option, Result, Some, [], ap, append-nil, arith, length, length-append, refl, subst, sym, ◌++◌, ◌∙◌, ◌≡◌, ◌∷◌, ℕ}
use Rattle.std.proofs.lemmas.List.Elements.{All-cons, All-nil}
use mathlib.Core.List.{IsPrefix}
use Rattle.node_core.specs.Core.{Core, IsHeld, MayAsk, Steps, entries_for, world_of}
use Rattle.node_core.specs.InHand.{InHand, job_in}
use Rattle.node_model.specs.Journals.{IsLegal, world}
use Rattle.node_model.specs.Steps.{Answer, Ask, May, reply}
use Rattle.node_model.specs.World.{Holds}
use Rattle.node_model.specs.declared.journal.Entry.{Entry}
use Rattle.node_model.specs.declared.journal.Event.{Event}
use Rattle.node_shared.specs.Laws.{TurnsFindOwn}
use Rattle.node_shared.specs.Turn.{IsFound, IsLook, IsTurn}
use Rattle.proc_syntax.specs.declared.tree.App.{App}
use Rattle.rel_base.proofs.Stories.{entries_append, prefix_trans}
use Rattle.rel_base.specs.Stories.{AddsOwn}
use Rattle.rel_base.specs.declared.storied.Storied.{Ghosts}
use Rattle.schedule_laws.proofs.Asking.{may_stays}
use Rattle.schedule_laws.proofs.Lasting.{before_facts, others_leave}
use Rattle.schedule_laws.specs.Stable.{IsLater, entries_by}
use Rattle.turn_lock.specs.Passes.{Gains, mine, pass_base, pass_number, seen}
use Rattle.turn_lock.specs.declared.pass.Pass.{Pass}

nothing : {A : Type 0} (xs ys zs : List A) → xs ++ ys ≡ zs → xs ≡ zs → ys ≡ []
nothing xs [] zs e f = refl
nothing xs (y ∷ ys) zs e f =
    let l = ap length e in
    let m = ap length f in
    let n = length-append xs (y ∷ ys) in absurd (omega arith)

module _ (app : App) (number : ℕ) (seen mine journal : List Entry) (own : entries_by number seen ≡ mine) (found : IsFound app number seen mine journal) where
  -- what others added since the pass had seen it
  abbrev others : List Entry
  others = found.later.0

  quiet : entries_by number others ≡ []
  quiet =
      nothing (entries_by number seen) (entries_by number others) mine
      (sym (entries_append (λ (entry : Entry). entry.actor) number seen others) ∙ (ap (entries_by number) found.later.1 ∙ found.own)) own

  legal : IsLegal app (seen ++ others)
  legal = subst (IsLegal app) (sym found.later.1) found.legal

  pub found_later : IsLater app number (world app seen) (world app journal)
  found_later = subst (λ (j : List Entry). IsLater app number (world app seen) (world app j)) found.later.1 (others_leave app seen others number legal quiet)

  -- what might be asked at what the pass had seen may be asked in the turn
  pub found_may : (ask : Ask) → MayAsk (record { app = app; journal = seen }) number ask → MayAsk (record { app = app; journal = journal }) number ask
  found_may ask may =
      subst (λ (j : List Entry). May app (world app j) number ask) found.later.1 (may_stays app seen others number ask legal quiet may)

  -- what a pass held at what it had seen, it holds in the turn
  pub found_held : (work : InHand) → work.actor ≡ number → IsHeld (record { app = app; journal = seen }) work → IsHeld (record { app = app; journal = journal }) work
  found_held work same held =
      let l = found_later in
      let stood = subst (λ (n : ℕ). Holds (world app seen).jobs n work.job (job_in work)) same held.holds in
      let stands = (l.held work.job (job_in work)).0 stood in
      let low = ((before_facts app seen others legal).jobs_fit work.job (job_in work) held.holds.stands).low refl in
      record {
        app = held.app;
        holds = subst (λ (n : ℕ). Holds (world app journal).jobs n work.job (job_in work)) (sym same) stands;
        time = held.time ∙ sym (l.shows.times work.told.tx.height low);
      }

pub turns_find_own : TurnsFindOwn
turns_find_own app number seen mine journal own found = found_later app number seen mine journal own found

-- what is found of the node in its place is found of the node
pub found_of : (held core : Core) (number : ℕ) (seen mine : List Entry) → core ≡ held → IsLegal core.app core.journal → IsPrefix seen held.journal → entries_by number held.journal ≡ mine
    → IsFound core.app number seen mine core.journal
found_of held core number seen mine same legal later own =
    record { legal = legal; later = subst (λ (c : Core). IsPrefix seen c.journal) (sym same) later; own = ap (λ (c : Core). entries_by number c.journal) same ∙ own }

-- ---- what a call of the core adds to the journal

-- the entries of a step are its actor's
pub all_own : (actor : ℕ) (event : Option Event) → All (λ (entry : Entry). entry.actor ≡ actor) (entries_for actor event)
all_own actor None = All-nil (λ (entry : Entry). entry.actor ≡ actor)
all_own actor (Some event) = All-cons (λ (entry : Entry). entry.actor ≡ actor) (record { actor = actor; event = event }) [] refl (All-nil (λ (entry : Entry). entry.actor ≡ actor))

pub step_adds : (old new : Core) (actor : ℕ) (ask : Ask) (answer : Answer) → Steps old actor ask answer new → AddsOwn (λ (entry : Entry). entry.actor) actor old.journal new.journal
step_adds old new actor ask answer step =
    (entries_for actor (reply old.app (world_of old) ask).1, ap (λ (p : Answer × Core). p.1.journal) step, all_own actor (reply old.app (world_of old) ask).1)

pub same_adds : (old new : Core) (actor : ℕ) → new ≡ old → AddsOwn (λ (entry : Entry). entry.actor) actor old.journal new.journal
same_adds old new actor same = ([], ap (λ (core : Core). core.journal) same ∙ sym (append-nil old.journal), All-nil (λ (entry : Entry). entry.actor ≡ actor))

-- so it is whether or not memory was wanting
pub call_adds : {A M : Type 0} (P : A → Type 0) (r : Result A M) (old new : Core) (actor : ℕ) → IfOk r P → OnErr r (new ≡ old)
    → ((got : A) → P got → AddsOwn (λ (entry : Entry). entry.actor) actor old.journal new.journal) → AddsOwn (λ (entry : Entry). entry.actor) actor old.journal new.journal
call_adds P (Ok got) old new actor step err adds = adds got step
call_adds P (Err e) old new actor step err adds = same_adds old new actor err

-- what is given back adds to what was seen
pub story_of : (seen : List Entry) (old new : Core) (actor number : ℕ) → seen ≡ old.journal → actor ≡ number → AddsOwn (λ (entry : Entry). entry.actor) actor old.journal new.journal
    → AddsOwn (λ (entry : Entry). entry.actor) number seen new.journal
story_of seen old new actor number at same adds =
    subst (λ (j : List Entry). AddsOwn (λ (entry : Entry). entry.actor) number j new.journal) (sym at)
    (subst (λ (n : ℕ). AddsOwn (λ (entry : Entry). entry.actor) n old.journal new.journal) same adds)

-- and begins with what was seen before
pub later_of : (seen seen' : List Entry) (old new : Core) (actor : ℕ) → IsPrefix seen old.journal → AddsOwn (λ (entry : Entry). entry.actor) actor old.journal new.journal → seen' ≡ new.journal → IsPrefix seen seen'
later_of seen seen' old new actor later adds at = subst (IsPrefix seen) (sym at) (prefix_trans seen old.journal new.journal later (adds.0, sym adds.1))

-- of what holds where memory was wanting, the first part
pub core_same : {A M : Type 0} (P Q : Type 0) (r : Result A M) → OnErr r (P × Q) → OnErr r P
core_same P Q (Ok got) err = tt
core_same P Q (Err e) err = err.0

pub ok_map : {A M : Type 0} (P Q : A → Type 0) (r : Result A M) → IfOk r P → ((got : A) → P got → Q got) → IfOk r Q
ok_map P Q (Ok got) step then = then got step
ok_map P Q (Err e) step then = tt

-- the step of the core, by what the pass has seen after it
pub step_seen : (old new : Core) (actor number : ℕ) (base : App) (seen : List Entry) (ask : Ask) (answer : Answer) → old.app ≡ base → actor ≡ number → seen ≡ new.journal → Steps old actor ask answer new
    → Steps (record { app = base; journal = old.journal }) number ask answer (record { app = base; journal = seen })
step_seen old new actor number base seen ask answer app same at step =
    subst (λ (n : ℕ). Steps (record { app = base; journal = old.journal }) n ask answer (record { app = base; journal = seen })) same
    (subst (λ (a : App). Steps (record { app = a; journal = old.journal }) actor ask answer (record { app = a; journal = seen })) app
    (ap (λ (j : List Entry). (answer, record { app = old.app; journal = j })) at ∙ ap (λ (p : Answer × Core). (p.0, record { app = old.app; journal = p.1.journal })) step))

-- a step of the core that was taken out and is given back is a turn of the pass
pub turn_of : {ghosts : Ghosts Core App Entry} (before after : Pass Core App Entry ghosts) (old new : Core) (actor : ℕ) → old.app ≡ pass_base before → actor ≡ pass_number before
    → IsFound old.app (pass_number before) (seen before) (mine before) old.journal → IsLegal new.app new.journal → seen after ≡ new.journal → (ask : Ask) (answer : Answer) → Steps old actor ask answer new
    → mine after ≡ mine before ++ entries_for (pass_number before) (reply (pass_base before) (world (pass_base before) old.journal) ask).1 → IsTurn before after ask answer
turn_of before after old new actor base same found legal at ask answer step own =
    let app_same : new.app ≡ pass_base before = ap (λ (p : Answer × Core). p.1.app) step ∙ base in
    record {
      journal = old.journal;
      found = subst (λ (a : App). IsFound a (pass_number before) (seen before) (mine before) old.journal) base found;
      step = step_seen old new actor (pass_number before) (pass_base before) (seen after) ask answer base same at step;
      own = own;
      legal = subst (λ (j : List Entry). IsLegal (pass_base before) j) (sym at) (subst (λ (a : App). IsLegal a new.journal) app_same legal);
    }

-- what the pass has made gains the entry of the step
pub own_of : (old new : Core) (actor number : ℕ) (base : App) (before own own' first : List Entry) (ask : Ask) (answer : Answer) → old.app ≡ base → actor ≡ number → before ≡ old.journal → own ≡ first
    → Steps old actor ask answer new → Gains before new.journal own own' → own' ≡ first ++ entries_for number (reply base (world base old.journal) ask).1
own_of old new actor number base before own own' first ask answer app same at is step gains =
    let news : List Entry = entries_for number (reply base (world base old.journal) ask).1 in
    let stands : Steps (record { app = base; journal = old.journal }) number ask answer (record { app = base; journal = new.journal }) =
    step_seen old new actor number base new.journal ask answer app same refl step in
    gains news (ap (λ (p : Answer × Core). p.1.journal) stands ∙ ap (λ (j : List Entry). j ++ news) (sym at)) ∙ ap (λ (mine : List Entry). mine ++ news) is

-- a call that changed nothing is a look of the pass
pub look_of : {ghosts : Ghosts Core App Entry} (before after : Pass Core App Entry ghosts) (old new : Core) → old.app ≡ pass_base before
    → IsFound old.app (pass_number before) (seen before) (mine before) old.journal → seen after ≡ new.journal → new ≡ old → mine after ≡ mine before → IsLook before after
look_of before after old new base found at same own =
    record {
      found =
          subst (λ (j : List Entry). IsFound (pass_base before) (pass_number before) (seen before) (mine before) j) (sym (at ∙ ap (λ (core : Core). core.journal) same))
          (subst (λ (a : App). IsFound a (pass_number before) (seen before) (mine before) old.journal) base found);
      same = own;
    }

pub err_map : {A M : Type 0} (P Q : Type 0) (r : Result A M) → OnErr r P → (P → Q) → OnErr r Q
err_map P Q (Ok got) err then = tt
err_map P Q (Err e) err then = then err
