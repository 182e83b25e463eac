-- What arrives, turn by turn and at the end.
use Rattle.std.proofs.Common.{Bool, List, None, OnErr, Option, Result, Err, IfOk, Ok, Some, [], ap, append_assoc, append-nil, arith, cond, drop, eq-eqb, false, get_or, inl, inr, length, ne_eqb, refl, subst, suc, sym, take, true, ⊎_elim, ◌+◌, ◌++◌, ◌<◌, ◌==◌, ◌∙◌, ◌≡◌, ◌≢◌, ◌∷◌, ◌⊎◌, ℕ}
use Rattle.std.proofs.lemmas.List.{take-append-drop}
use mathlib.Core.Logic.{dite}
use native.Mathlib.Decide.{ℕ_discrete}
use Rattle.cluster_run.specs.Arrivals.{AreFedBy, IsFedBy, IsSubsequence, arrival, arrived}
use Rattle.cluster_run.specs.Standing.{AllBring, Brings}
use Rattle.node_core.specs.Core.{Core, entries_for}
use Rattle.node_model.specs.Steps as steps
use Rattle.node_model.specs.Steps.{Answer, Ask, Reply, Shared, ToArrive, ToClaim, ToCommit, ToDeliver, ToFinish, ToRead, ToRelease, ToSeal, arrives, chosen, claims, commits, commits_due, delivers, finishes, is_known, is_ready, reads, reads_unless, reply, seals, seals_due}
use Rattle.node_model.specs.Events.{settled_in}
use Rattle.node_model.specs.Journals.{world}
use Rattle.node_model.specs.World.{BlockInWork, Job, World, decided, due, job_at}
use Rattle.node_model.specs.declared.journal.Entry.{Entry}
use Rattle.node_model.specs.declared.journal.Event.TheVariants.{Arrive, Commit, Deliver}
use Rattle.node_model.specs.declared.journal.Event.{Event}
use Rattle.node_model.specs.declared.result.NodeResult.{NodeResult}
use Rattle.node_shared.specs.Turn.{IsArrival, IsLook}
use Rattle.proc_syntax.specs.Call.{call_fault}
use Rattle.proc_syntax.specs.declared.call.Tx.{Tx}
use Rattle.proc_syntax.specs.declared.tree.App.{App}
use Rattle.rel_base.specs.declared.storied.Storied.{Ghosts}
use Rattle.schedule_laws.specs.Stable.{entries_by}
use Rattle.std.specs.Option.{is_some}
use Rattle.turn_lock.specs.Ledger.{made_by}
use Rattle.turn_lock.specs.Passes.{joined, mine, pass_base, pass_number, seen}
use Rattle.turn_lock.specs.declared.pass.Pass.{Pass}

-- ---- the arrivals of entries that follow one another

pub arrived-append : (one two : List Entry) → arrived (one ++ two) ≡ arrived one ++ arrived two
arrived-append [] two = refl
arrived-append (entry ∷ one) two = ap (λ rest. arrival entry.event ++ rest) (arrived-append one two) ∙ sym (append_assoc (arrival entry.event) (arrived one) (arrived two))

-- asks that bring no transaction
abbrev pub BringsNone : Ask → Type 0
BringsNone (ToArrive tx) = ⊥
BringsNone (ToClaim pick) = Unit {0}
BringsNone (ToRead number) = Unit {0}
BringsNone (ToFinish number) = Unit {0}
BringsNone (ToRelease number) = Unit {0}
BringsNone (ToDeliver block) = Unit {0}
BringsNone ToCommit = Unit {0}
BringsNone ToSeal = Unit {0}

module _ (app : App) (w : World) (actor : ℕ) where
  -- an event that is no arrival
  abbrev NoneIn : Option Event → Type 0
  NoneIn event = arrived (entries_for actor event) ≡ []

  pub brings_none : (ask : Ask) → BringsNone ask → NoneIn (reply app w ask).1
  brings_none (ToArrive tx) none = absurd none
  brings_none (ToClaim pick) none = by (chosen app w pick) where
    by : (o : Option ℕ) → NoneIn (claims o).1
    by None = refl
    by (Some number) = refl
  brings_none (ToRead number) none = by (job_at w.jobs number) where
    by_settled : (job : Job) (o : Option ℕ) → NoneIn (reads_unless app w number job o).1
    by_settled job None = refl
    by_settled job (Some block) = refl

    by : (o : Option Job) → NoneIn (reads app w number o).1
    by None = refl
    by (Some job) = by_settled job (settled_in job.tx.id w.sealed)
  brings_none (ToFinish number) none = by (job_at w.jobs number) where
    by : (o : Option Job) → NoneIn (finishes w number o).1
    by None = refl
    by (Some job) = refl
  brings_none (ToRelease number) none = refl
  brings_none (ToDeliver block) none = by w.work where
    by_next : (b : Bool) → NoneIn (cond {A = Reply} b (steps.Taken, Some (Deliver block)) (steps.NotNext (length w.sealed + 1), None)).1
    by_next true = refl
    by_next false = refl

    by : (o : Option BlockInWork) → NoneIn (delivers w block o).1
    by None = by_next (block.value.number == (length w.sealed + 1))
    by (Some work) = refl
  brings_none ToCommit none = by w.work where
    by_ready : (work : BlockInWork) (b : Bool) (answer : Answer) → NoneIn (cond {A = Reply} b (steps.Decided (decided work + 1), Some (Commit (decided work + 1))) (answer, None)).1
    by_ready work true answer = refl
    by_ready work false answer = refl

    by_due : (work : BlockInWork) (t : Option Tx) → NoneIn (commits_due app w work t).1
    by_due work None = refl
    by_due work (Some tx) = by_ready work (is_ready app w work tx) _

    by : (o : Option BlockInWork) → NoneIn (commits app w o).1
    by None = refl
    by (Some work) = by_due work (due work)
  brings_none ToSeal none = by w.work where
    by_due : (work : BlockInWork) (t : Option Tx) → NoneIn (seals_due app w work t).1
    by_due work None = refl
    by_due work (Some tx) = refl

    by : (o : Option BlockInWork) → NoneIn (seals app w o).1
    by None = refl
    by (Some work) = by_due work (due work)

  abbrev answered : Shared Tx → Bool → Bool → Reply
  answered tx fault known = cond fault (steps.Invalid, None) (cond known (steps.Known, None) (steps.Queued, Some (Arrive (length w.jobs + 1) tx)))

  -- an arrival notes its transaction, or nothing
  brings_one : (tx : Shared Tx) → NoneIn (arrives app w tx).1 ⊎ (arrived (entries_for actor (arrives app w tx).1) ≡ tx.value ∷ [])
  brings_one tx = by (is_some (call_fault app tx.value)) (is_known w tx.value) where
    by : (fault known : Bool) → NoneIn (answered tx fault known).1 ⊎ (arrived (entries_for actor (answered tx fault known).1) ≡ tx.value ∷ [])
    by true known = inl refl
    by false true = inl refl
    by false false = inr refl

-- ---- a list without some of its items

pub sub_more : {X : Type 0} (xs ys zs : List X) → IsSubsequence xs ys → IsSubsequence xs (ys ++ zs)
sub_more [] ys zs sub = tt
sub_more (x ∷ xs) [] zs sub = absurd sub
sub_more (x ∷ xs) (y ∷ ys) zs sub = ⊎_elim (λ (t : (x ≡ y) × IsSubsequence xs ys). inl (t.0, sub_more xs ys zs t.1)) (λ (t : IsSubsequence (x ∷ xs) ys). inr (sub_more (x ∷ xs) ys zs t)) sub

sub_snoc : {X : Type 0} (xs ys : List X) (z : X) → IsSubsequence xs ys → IsSubsequence (xs ++ z ∷ []) (ys ++ z ∷ [])
sub_snoc [] [] z sub = inl (refl, tt)
sub_snoc [] (y ∷ ys) z sub = inr (sub_snoc [] ys z tt)
sub_snoc (x ∷ xs) [] z sub = absurd sub
sub_snoc (x ∷ xs) (y ∷ ys) z sub = ⊎_elim (λ (t : (x ≡ y) × IsSubsequence xs ys). inl (t.0, sub_snoc xs ys z t.1)) (λ (t : IsSubsequence (x ∷ xs) ys). inr (sub_snoc (x ∷ xs) ys z t)) sub

-- of the first items, and so of all
pub sub_all : {X : Type 0} (xs ys : List X) (n : ℕ) → IsSubsequence xs (take n ys) → IsSubsequence xs ys
sub_all xs ys n sub = subst (IsSubsequence xs) (take-append-drop n ys) (sub_more xs (take n ys) (drop n ys) sub)

-- ---- the pass that feeds a node

module _ {ghosts : Ghosts Core App Entry} (old new : Pass Core App Entry ghosts) where
  came : (tx : Tx) (front : List Tx) (answer : Answer) → IsArrival old new tx answer → IsSubsequence (arrived (mine old)) front → IsSubsequence (arrived (mine new)) (front ++ tx ∷ [])
  came tx front answer arrived_so sub =
      let at : World = world (pass_base old) arrived_so.turn.journal in
      let event : Option Event = (arrives (pass_base old) at arrived_so.shared).1 in
      let grown : arrived (mine new) ≡ arrived (mine old) ++ arrived (entries_for (pass_number old) event) = ap arrived arrived_so.turn.own ∙ arrived-append (mine old) (entries_for (pass_number old) event) in
      ⊎_elim
      (λ (none : arrived (entries_for (pass_number old) event) ≡ []).
      subst (λ (txs : List Tx). IsSubsequence txs (front ++ tx ∷ [])) (sym (grown ∙ (ap (λ (txs : List Tx). arrived (mine old) ++ txs) none ∙ append-nil (arrived (mine old)))))
      (sub_more (arrived (mine old)) front (tx ∷ []) sub))
      (λ (one : arrived (entries_for (pass_number old) event) ≡ arrived_so.shared.value ∷ []).
      subst (λ (txs : List Tx). IsSubsequence txs (front ++ tx ∷ [])) (sym (grown ∙ (ap (λ (txs : List Tx). arrived (mine old) ++ txs) one ∙ ap (λ (it : Tx). arrived (mine old) ++ it ∷ []) arrived_so.same)))
      (sub_snoc (arrived (mine old)) front tx sub))
      (brings_one (pass_base old) at (pass_number old) arrived_so.shared)

  -- whether or not memory ran out
  pub feeds_on : {M A : Type 0} (tx : Tx) (front : List Tx) (said : A → Answer) (r : Result A M) → IfOk r (λ got. IsArrival old new tx (said got)) → OnErr r (IsLook old new) → IsSubsequence (arrived (mine old)) front
      → IsSubsequence (arrived (mine new)) (front ++ tx ∷ [])
  feeds_on tx front said (Ok got) turn err sub = came tx front (said got) turn sub
  feeds_on tx front said (Err refused) turn err sub = subst (λ (entries : List Entry). IsSubsequence (arrived entries) (front ++ tx ∷ [])) (sym err.same) (sub_more (arrived (mine old)) front (tx ∷ []) sub)

-- an actor that has brought nothing
pub brings_nothing : (executors : ℕ) (handed : List Tx) (actor : ℕ) (entries : List Entry) → arrived entries ≡ [] → Brings executors handed actor entries
brings_nothing executors handed actor entries none = record { in_order = subst (λ (txs : List Tx). IsSubsequence txs handed) (sym none) tt; others = λ _. none }

-- and the one that feeds
pub brings_fed : (executors : ℕ) (handed : List Tx) (actor : ℕ) (entries : List Entry) → actor ≡ executors + 1 → IsSubsequence (arrived entries) handed → Brings executors handed actor entries
brings_fed executors handed actor entries same sub = record { in_order = sub; others = λ apart. absurd (apart same) }

pub brings_same : (executors executors' : ℕ) (handed handed' : List Tx) (actor : ℕ) (entries : List Entry) → executors ≡ executors' → handed ≡ handed' → Brings executors handed actor entries → Brings executors' handed' actor entries
brings_same executors executors' handed handed' actor entries same are brings =
    subst (λ (n : ℕ). Brings n handed' actor entries) same (subst (λ (txs : List Tx). Brings executors txs actor entries) are brings)

-- ---- the passes that were joined

module _ {ghosts : Ghosts Core App Entry} (executors : ℕ) (handed : List Tx) where
  pub none_joined : (pass : Pass Core App Entry ghosts) → joined pass ≡ [] → AllBring executors handed pass
  none_joined pass none actor = brings_nothing executors handed actor (made_by actor (joined pass)) (ap (λ ledger. arrived (made_by actor ledger)) none)

  pub same_joined : (old new : Pass Core App Entry ghosts) → joined new ≡ joined old → AllBring executors handed old → AllBring executors handed new
  same_joined old new same bring actor = subst (λ ledger. Brings executors handed actor (made_by actor ledger)) (sym same) (bring actor)

  pub more_joined : (old new other : Pass Core App Entry ghosts) → joined new ≡ (pass_number other, mine other) ∷ joined old → Brings executors handed (pass_number other) (mine other) → AllBring executors handed old → AllBring executors handed new
  more_joined old new other more brings bring actor = subst (λ ledger. Brings executors handed actor (made_by actor ledger)) (sym more) (dite (ℕ_discrete (pass_number other) actor)
      (λ same. subst (Brings executors handed actor) (sym (ap (λ (is : Bool). cond is (mine other) (made_by actor (joined old))) (eq-eqb (pass_number other) actor same)))
      (subst (λ (n : ℕ). Brings executors handed n (mine other)) same brings))
      (λ apart. subst (Brings executors handed actor) (sym (ap (λ (is : Bool). cond is (mine other) (made_by actor (joined old))) (ne_eqb (pass_number other) actor apart))) (bring actor)))

-- ---- the whole journal

nil_front : {X : Type 0} (xs ys : List X) → xs ++ ys ≡ [] → xs ≡ []
nil_front [] ys e = refl
nil_front (x ∷ xs) ys e = absurd (cc (e))

nil_back : {X : Type 0} (xs ys : List X) → xs ++ ys ≡ [] → ys ≡ []
nil_back [] ys e = e
nil_back (x ∷ xs) ys e = absurd (cc (e))

module _ (entry : Entry) (journal : List Entry) where
  abbrev kept_if : Bool → List Entry → List Entry
  kept_if is rest = cond is (entry ∷ rest) rest

  tail_none : (actor : ℕ) → arrived (entries_by actor (entry ∷ journal)) ≡ [] → arrived (entries_by actor journal) ≡ []
  tail_none actor = by (entry.actor == actor) where
    by : (is : Bool) → arrived (kept_if is (entries_by actor journal)) ≡ [] → arrived (entries_by actor journal) ≡ []
    by true none = nil_back (arrival entry.event) (arrived (entries_by actor journal)) none
    by false none = none

  head_none : arrived (entries_by entry.actor (entry ∷ journal)) ≡ [] → arrival entry.event ≡ []
  head_none none =
      nil_front (arrival entry.event) (arrived (entries_by entry.actor journal))
      (sym (ap (λ (is : Bool). arrived (kept_if is (entries_by entry.actor journal))) (eq-eqb entry.actor entry.actor refl)) ∙ none)

-- where no other actor has brought any, the arrivals are those of the one
arrived_by : (one : ℕ) (journal : List Entry) → ((actor : ℕ) → actor ≢ one → arrived (entries_by actor journal) ≡ []) → arrived journal ≡ arrived (entries_by one journal)
arrived_by one [] none = refl
arrived_by one (entry ∷ journal) none =
    let rest = arrived_by one journal (λ actor apart. tail_none entry journal actor (none actor apart)) in
    let own : List Entry = entries_by one journal in
    dite (ℕ_discrete entry.actor one)
    (λ same. ap (λ (txs : List Tx). arrival entry.event ++ txs) rest ∙ sym (ap (λ (is : Bool). arrived (kept_if entry journal is own)) (eq-eqb entry.actor one same)))
    (λ apart. ap (λ (txs : List Tx). txs ++ arrived journal) (head_none entry journal (none entry.actor apart)) ∙ (rest ∙ sym (ap (λ (is : Bool). arrived (kept_if entry journal is own)) (ne_eqb entry.actor one apart))))

module _ {ghosts : Ghosts Core App Entry} (pass : Pass Core App Entry ghosts) (own : entries_by 0 (seen pass) ≡ mine pass) (brought : arrived (mine pass) ≡ []) (others : (actor : ℕ) → actor ≢ 0 → entries_by actor (seen pass) ≡ made_by actor (joined pass)) where
  all_fed : (executors : ℕ) (handed : List Tx) → AllBring executors handed pass → IsSubsequence (arrived (seen pass)) handed
  all_fed executors handed bring =
      let one : ℕ = executors + 1 in
      let none : (actor : ℕ) → actor ≢ one → arrived (entries_by actor (seen pass)) ≡ [] = λ actor apart. dite (ℕ_discrete actor 0)
      (λ zero. ap (λ (n : ℕ). arrived (entries_by n (seen pass))) zero ∙ (ap arrived own ∙ brought))
      (λ away. ap arrived (others actor away) ∙ (bring actor).others apart) in
      subst (λ (txs : List Tx). IsSubsequence txs handed) (sym (arrived_by one (seen pass) none ∙ ap arrived (others one (λ zero. absurd (omega arith))))) (bring one).in_order

  -- what a node tells as it is closed
  pub told_fed : {M : Type 0} (r : Result NodeResult M) → IfOk r (λ told. told.journal ≡ seen pass) → IfOk r (λ told. (executors : ℕ) (handed : List Tx) → AllBring executors handed pass → IsFedBy told handed)
  told_fed (Ok told) same = λ executors handed bring. subst (λ (journal : List Entry). IsSubsequence (arrived journal) handed) (sym same) (all_fed executors handed bring)
  told_fed (Err refused) same = tt

-- ---- all nodes

-- what is left of the answers, from a place on: each that is a node has what was handed to it at its place
abbrev pub AllFed : {M : Type 0} → List (Result NodeResult M) → List (List Tx) → ℕ → Type 0
AllFed {M} told lists place = (k : ℕ) (d : Result NodeResult M) → k < length told → IfOk (get_or told k d) (λ node. IsFedBy node (get_or lists (place + k) []))

pub fed_first : {M : Type 0} (told : List (Result NodeResult M)) (first : Result NodeResult M) (rest : List (Result NodeResult M)) (lists : List (List Tx)) (place : ℕ) → told ≡ first ∷ rest → AllFed told lists place
    → IfOk first (λ node. IsFedBy node (get_or lists place []))
fed_first told first rest lists place is all =
    let here : place + 0 ≡ place = omega arith in
    subst (λ (n : ℕ). IfOk first (λ node. IsFedBy node (get_or lists n []))) here (subst (λ (list : List (Result NodeResult _)). AllFed list lists place) is all 0 first (omega arith))

pub fed_rest : {M : Type 0} (told : List (Result NodeResult M)) (first : Result NodeResult M) (rest : List (Result NodeResult M)) (lists : List (List Tx)) (place next : ℕ) → told ≡ first ∷ rest → next ≡ place + 1 → AllFed told lists place → AllFed rest lists next
fed_rest told first rest lists place next is one all k d below =
    let there : place + suc k ≡ next + k = omega (arith, one) in
    subst (λ (n : ℕ). IfOk (get_or rest k d) (λ node. IsFedBy node (get_or lists n []))) there (subst (λ (list : List (Result NodeResult _)). AllFed list lists place) is all (suc k) d (omega (arith, below)))

-- one more node has what was handed to it at its place
pub fed_snoc : (nodes : List NodeResult) (lists : List (List Tx)) (node : NodeResult) (handed : List Tx) → AreFedBy nodes lists → length nodes < length lists → get_or lists (length nodes) [] ≡ handed → IsFedBy node handed → AreFedBy (nodes ++ node ∷ []) lists
fed_snoc [] [] node handed fed more is last = absurd (omega (arith, more))
fed_snoc [] (first ∷ lists) node handed fed more is last = (subst (IsFedBy node) (sym is) last, tt)
fed_snoc (x ∷ nodes) [] node handed fed more is last = absurd fed
fed_snoc (x ∷ nodes) (first ∷ lists) node handed fed more is last = (fed.0, fed_snoc nodes lists node handed fed.1 (omega (arith, more)) is last)
