-- The views of all passes, where the view of one of them changes, or where one more is added.
use Rattle.std.proofs.Common.{◌≡◌, ◌≢◌, ◌⊎◌, ℕ, zero, suc, ◌+◌, ◌-◌, ◌<◌, ◌≤◌, true, false, true≢false, List, [], ◌∷◌, ◌++◌, length, set, length-append, refl, sym, ap, ◌∙◌, subst, inl, inr, ⊎_elim, arith, length-set}
use mathlib.Core.Logic.{dite}
use mathlib.Core.Option.{none, some, some-injective, some-ne-none}
use mathlib.Core.List.{IsPrefix}
use native.Mathlib.Decide.{ℕ_discrete}
use lib.ListN.{get_elem?}
use Rattle.atomic_table.proofs.Lists.{at_set, set_here, set_else, at_longer}
use Rattle.rel_base.specs.Stories.{entries_of}
use Rattle.rel_base.proofs.Stories.{prefix_trans, prefix_of_nil}
use Rattle.turn_lock.specs.declared.rule.Stage.{Stage}
use Rattle.turn_lock.specs.declared.rule.Stage.TheVariants.{Idle, Entered, Ready, Out}
use Rattle.turn_lock.specs.declared.rule.View.{View}
use Rattle.turn_lock.specs.Ledger.{Ledger}
use Rattle.turn_lock.specs.Views.{one_if, at_stage}
use Rattle.turn_lock.specs.Rule.{KnowsTurn, Lives, Fits, HasHolder, Whole, First, IsKept, HasLedger, count_live}

-- a place that has an element is below the length
pub at_bound : {A : Type 0} (l : List A) (i : ℕ) (a : A) → get_elem? l i ≡ some a → i < length l
at_bound [] i a e = absurd (some-ne-none a (sym e))
at_bound (x ∷ xs) zero a e = omega arith
at_bound (x ∷ xs) (suc i) a e = let h = at_bound xs i a e in omega arith

-- and one that has none is not
pub at_none : {A : Type 0} (l : List A) (i : ℕ) → get_elem? l i ≡ none → length l ≤ i
at_none [] i e = omega arith
at_none (x ∷ xs) zero e = absurd (some-ne-none x e)
at_none (x ∷ xs) (suc i) e = let h = at_none xs i e in omega arith

-- an element of a list that was lengthened by one is one of the old list, or the last
pub at_end : {A : Type 0} (l : List A) (a b : A) (j : ℕ) → get_elem? (l ++ a ∷ []) j ≡ some b → (get_elem? l j ≡ some b) ⊎ ((length l ≡ j) × (a ≡ b))
at_end [] a b zero e = inr (refl, some-injective a b e)
at_end [] a b (suc j) e = absurd (some-ne-none b (sym e))
at_end (x ∷ xs) a b zero e = inl e
at_end (x ∷ xs) a b (suc j) e = ⊎_elim (λ (t : get_elem? xs j ≡ some b). inl t) (λ (t : (length xs ≡ j) × (a ≡ b)). inr (let h = t.0 in omega arith, t.1)) (at_end xs a b j e)

-- where another pass has the turn, or none has, this one has not
other_turn : (stage own : Stage) (holder id other : ℕ) → ((stage ≡ Idle) ⊎ (holder ≡ id)) → other ≢ id → other ≡ holder → stage ≡ own → Idle ≢ own → ⊥
other_turn stage own holder id other whose apart same is idle = ⊎_elim (λ (free : stage ≡ Idle). idle (sym free ∙ is)) (λ (theirs : holder ≡ id). apart (same ∙ theirs)) whose

module _ {Base Entry : Type 0} (actor : Entry → ℕ) where
  knows_other : (story story' : List Entry) (stage stage' : Stage) (holder id other : ℕ) (view : View Base Entry) → ((stage ≡ Idle) ⊎ (holder ≡ id)) → other ≢ id
      → (own : Stage) → KnowsTurn story stage holder other view own → KnowsTurn story' stage' id other view own
  knows_other story story' stage stage' holder id other view whose apart Idle k = tt
  knows_other story story' stage stage' holder id other view whose apart Entered k = absurd (other_turn stage Entered holder id other whose apart k.0 k.1 (λ e. cc))
  knows_other story story' stage stage' holder id other view whose apart Ready k = absurd (other_turn stage Ready holder id other whose apart k.0 k.1 (λ e. cc))
  knows_other story story' stage stage' holder id other view whose apart Out k = absurd (other_turn stage Out holder id other whose apart k.0 k.1 (λ e. cc))

  -- what another pass shows stays so, where the story grows by entries that are not its own
  pub fits_other : (base : Base) (story story' : List Entry) (stage stage' : Stage) (holder id other : ℕ) (view : View Base Entry) → ((stage ≡ Idle) ⊎ (holder ≡ id)) → other ≢ id → IsPrefix story story' → entries_of actor other story' ≡ entries_of actor other story
      → Fits actor base story stage holder other view → Fits actor base story' stage' id other view
  fits_other base story story' stage stage' holder id other view whose apart more kept fits = record {
    turn = knows_other story story' stage stage' holder id other view whose apart view.stage fits.turn;
    front = prefix_trans view.seen story story' fits.front more;
    heard = prefix_trans view.told story story' fits.heard more;
    lives = λ live. let own = fits.lives live in record { number_is = own.number_is; base_is = own.base_is; all_mine = kept ∙ own.all_mine; all_seen = own.all_seen };
  }

  -- what holds of each pass holds of each after one of them has changed, where it holds of the changed one
  pub each_set : (P : ℕ → View Base Entry → Type 0) (views : List (View Base Entry)) (id : ℕ) (new : View Base Entry) → P id new → ((other : ℕ) (view : View Base Entry) → other ≢ id → get_elem? views other ≡ some view → P other view)
      → (other : ℕ) (view : View Base Entry) → get_elem? (set views id new) other ≡ some view → P other view
  each_set P views id new own others other view e = ⊎_elim (λ (t : (other ≡ id) × (new ≡ view)). subst (λ (x : ℕ × View Base Entry). P x.0 x.1) (λ i. (sym t.0 i, t.1 i)) own)
      (λ (t : (other ≢ id) × (get_elem? views other ≡ some view)). others other view t.0 t.1) (at_set views id other new view e)

  pub count_set : (views : List (View Base Entry)) (id : ℕ) (old new : View Base Entry) → get_elem? views id ≡ some old → count_live (set views id new) + one_if old.live ≡ count_live views + one_if new.live
  count_set [] id old new e = absurd (some-ne-none old (sym e))
  count_set (x ∷ xs) zero old new e = let s : one_if x.live ≡ one_if old.live = ap (λ (view : View Base Entry). one_if view.live) (some-injective x old e) in omega arith
  count_set (x ∷ xs) (suc id) old new e = let r = count_set xs id old new e in omega arith

  -- what pass 0 counts stays, where a pass changes neither its counts nor whether it lives
  pub first_set : (views : List (View Base Entry)) (id : ℕ) (old new : View Base Entry) → get_elem? views id ≡ some old → new.live ≡ old.live → new.made ≡ old.made → new.left ≡ old.left → new.joining ≡ old.joining → First views → First (set views id new)
  first_set views zero old new at live made left joining first =
      let same : first.view ≡ old = some-injective first.view old (sym first.stands ∙ at) in
      let m : first.view.made ≡ old.made = ap (λ (view : View Base Entry). view.made) same in
      let l : first.view.left ≡ old.left = ap (λ (view : View Base Entry). view.left) same in
      let j : one_if first.view.joining ≡ one_if old.joining = ap (λ (view : View Base Entry). one_if view.joining) same in
      let j' : one_if new.joining ≡ one_if old.joining = ap one_if joining in
      let o : one_if new.live ≡ one_if old.live = ap one_if live in
      let c = count_set views zero old new at in
      let n = first.count in let u = first.unjoined in record {
        view = new;
        stands = set_here views zero new (at_bound views zero old at);
        live = live ∙ (ap (λ (view : View Base Entry). view.live) (sym same) ∙ first.live);
        count = length-set views zero new ∙ omega arith;
        unjoined = omega arith;
      }
  first_set views (suc id) old new at live made left joining first =
      let o : one_if new.live ≡ one_if old.live = ap one_if live in
      let c = count_set views (suc id) old new at in let u = first.unjoined in record {
        view = first.view;
        stands = set_else views (suc id) zero new (λ h. omega arith) ∙ first.stands;
        live = first.live;
        count = length-set views (suc id) new ∙ first.count;
        unjoined = omega arith;
      }

  pub some_live : (views : List (View Base Entry)) (i : ℕ) (view : View Base Entry) → get_elem? views i ≡ some view → view.live ≡ true → 0 < count_live views
  some_live [] i view e live = absurd (some-ne-none view (sym e))
  some_live (x ∷ xs) zero view e live = let o : one_if x.live ≡ 1 = ap (λ (z : View Base Entry). one_if z.live) (some-injective x view e) ∙ ap one_if live in omega arith
  some_live (x ∷ xs) (suc i) view e live = let r = some_live xs i view e live in omega arith

  -- pass 0 counts the passes that are left as they are, where it looks after a join
  pub first_looked : (views : List (View Base Entry)) (id : ℕ) (old new : View Base Entry) → get_elem? views id ≡ some old → new.live ≡ old.live → old.live ≡ true → new.made ≡ old.made → new.joining ≡ false → new.left ≡ old.left - one_if old.joining → First views → First (set views id new)
  first_looked views zero old new at live alive made settled left first =
      let same : first.view ≡ old = some-injective first.view old (sym first.stands ∙ at) in
      let m : first.view.made ≡ old.made = ap (λ (view : View Base Entry). view.made) same in
      let l : first.view.left ≡ old.left = ap (λ (view : View Base Entry). view.left) same in
      let j : one_if first.view.joining ≡ one_if old.joining = ap (λ (view : View Base Entry). one_if view.joining) same in
      let j' : one_if new.joining ≡ 0 = ap one_if settled in
      let o : one_if new.live ≡ one_if old.live = ap one_if live in
      let c = count_set views zero old new at in
      let some = some_live views zero old at alive in
      let n = first.count in let u = first.unjoined in record {
        view = new;
        stands = set_here views zero new (at_bound views zero old at);
        live = live ∙ alive;
        count = length-set views zero new ∙ omega arith;
        unjoined = omega arith;
      }
  first_looked views (suc id) old new at live alive made settled left first =
      let o : one_if new.live ≡ one_if old.live = ap one_if live in
      let c = count_set views (suc id) old new at in let u = first.unjoined in record {
        view = first.view;
        stands = set_else views (suc id) zero new (λ h. omega arith) ∙ first.stands;
        live = first.live;
        count = length-set views (suc id) new ∙ first.count;
        unjoined = omega arith;
      }

  -- a pass that has the whole story has it after the change of a pass that forgets nothing
  pub whole_set : (story : List Entry) (views : List (View Base Entry)) (id : ℕ) (old new : View Base Entry) → get_elem? views id ≡ some old → new.live ≡ old.live → new.seen ≡ old.seen → new.told ≡ old.told → Whole story views → Whole story (set views id new)
  whole_set story views id old new at live seen told whole = dite (ℕ_discrete whole.place id)
      (λ is. let same : whole.view ≡ old = some-injective whole.view old (sym whole.stands ∙ (ap (get_elem? views) is ∙ at)) in record {
        place = id;
        view = new;
        stands = set_here views id new (at_bound views id old at);
        live = live ∙ (ap (λ (view : View Base Entry). view.live) (sym same) ∙ whole.live);
        all = ⊎_elim (λ (e : whole.view.seen ≡ story). inl (seen ∙ (ap (λ (view : View Base Entry). view.seen) (sym same) ∙ e)))
            (λ (e : whole.view.told ≡ story). inr (told ∙ (ap (λ (view : View Base Entry). view.told) (sym same) ∙ e))) whole.all;
      })
      (λ apart. record { place = whole.place; view = whole.view; stands = set_else views id whole.place new apart ∙ whole.stands; live = whole.live; all = whole.all })

  pub whole_here : (story : List Entry) (views : List (View Base Entry)) (id : ℕ) (new : View Base Entry) → id < length views → new.live ≡ true → new.seen ≡ story → Whole story (set views id new)
  whole_here story views id new inside live seen = record { place = id; view = new; stands = set_here views id new inside; live = live; all = inl seen }

  none_live : (views : List (View Base Entry)) (i : ℕ) (view : View Base Entry) → count_live views ≡ 0 → get_elem? views i ≡ some view → view.live ≡ true → ⊥
  none_live [] i view c e live = some-ne-none view (sym e)
  none_live (x ∷ xs) zero view c e live = let o : one_if x.live ≡ 1 = ap (λ (z : View Base Entry). one_if z.live) (some-injective x view e) ∙ ap one_if live in absurd (omega arith)
  none_live (x ∷ xs) (suc i) view c e live = none_live xs i view (omega arith) e live

  -- where one pass lives, and it is the first, no other does
  pub alone : (views : List (View Base Entry)) (first view : View Base Entry) (i : ℕ) → count_live views ≡ 1 → get_elem? views 0 ≡ some first → first.live ≡ true → get_elem? views i ≡ some view → view.live ≡ true → (i ≡ 0) × (view ≡ first)
  alone [] first view i c at live e alive = absurd (some-ne-none first (sym at))
  alone (x ∷ xs) first view zero c at live e alive = (refl, some-injective view first (sym e ∙ at))
  alone (x ∷ xs) first view (suc i) c at live e alive =
      let o : one_if x.live ≡ 1 = ap (λ (z : View Base Entry). one_if z.live) (some-injective x first at) ∙ ap one_if live in
      absurd (none_live xs i view (omega arith) e alive)

  pub count_snoc : (views : List (View Base Entry)) (new : View Base Entry) → count_live (views ++ new ∷ []) ≡ count_live views + one_if new.live
  count_snoc [] new = omega arith
  count_snoc (x ∷ xs) new = let r = count_snoc xs new in omega arith

  -- a pass that was given nothing has the whole story, where it has it, as what it has seen
  pub has_whole : (story : List Entry) (view : View Base Entry) → view.told ≡ [] → IsPrefix view.seen story → ((view.seen ≡ story) ⊎ (view.told ≡ story)) → view.seen ≡ story
  has_whole story view untold front = ⊎_elim (λ (e : view.seen ≡ story). e) (λ (e : view.told ≡ story). let nil : story ≡ [] = sym e ∙ untold in prefix_of_nil view.seen (subst (IsPrefix view.seen) nil front) ∙ sym nil)

  abbrev StandsAt : ℕ → List (View Base Entry) → Stage → Type 0
  StandsAt holder views stage = (view : View Base Entry) × (get_elem? views holder ≡ some view) × (view.stage ≡ stage)

  stands_set : (holder : ℕ) (views : List (View Base Entry)) (id : ℕ) (old new : View Base Entry) → get_elem? views id ≡ some old → new.stage ≡ old.stage → (stage : Stage) → StandsAt holder views stage → StandsAt holder (set views id new) stage
  stands_set holder views id old new at same stage t = dite (ℕ_discrete holder id)
      (λ is. (new, ap (get_elem? (set views id new)) is ∙ set_here views id new (at_bound views id old at), same ∙ (ap (λ (view : View Base Entry). view.stage) (some-injective old t.0 (sym at ∙ (ap (get_elem? views) (sym is) ∙ t.1))) ∙ t.2)))
      (λ apart. (t.0, set_else views id holder new apart ∙ t.1, t.2))

  -- the holder stands where it stood, where a pass changes and stays at its stage
  pub holder_set : (holder : ℕ) (views : List (View Base Entry)) (id : ℕ) (old new : View Base Entry) → get_elem? views id ≡ some old → new.stage ≡ old.stage → (stage : Stage) → HasHolder holder views stage → HasHolder holder (set views id new) stage
  holder_set holder views id old new at same Idle t = tt
  holder_set holder views id old new at same Entered t = stands_set holder views id old new at same Entered t
  holder_set holder views id old new at same Ready t = stands_set holder views id old new at same Ready t
  holder_set holder views id old new at same Out t = stands_set holder views id old new at same Out t

  pub holder_snoc : (holder : ℕ) (views : List (View Base Entry)) (new : View Base Entry) → (stage : Stage) → HasHolder holder views stage → HasHolder holder (views ++ new ∷ []) stage
  holder_snoc holder views new Idle t = tt
  holder_snoc holder views new Entered t = (t.0, at_longer views (new ∷ []) holder t.0 t.1, t.2)
  holder_snoc holder views new Ready t = (t.0, at_longer views (new ∷ []) holder t.0 t.1, t.2)
  holder_snoc holder views new Out t = (t.0, at_longer views (new ∷ []) holder t.0 t.1, t.2)

  -- where pass 0 alone lives, and has no turn, nobody has the turn
  pub nobody : (base : Base) (story : List Entry) (stage : Stage) (holder : ℕ) (views : List (View Base Entry)) (first : View Base Entry) → count_live views ≡ 1 → get_elem? views 0 ≡ some first → first.live ≡ true → first.stage ≡ Idle
      → ((i : ℕ) (view : View Base Entry) → get_elem? views i ≡ some view → Fits actor base story stage holder i view) → (at_stage : Stage) → HasHolder holder views at_stage → at_stage ≡ Idle
  nobody base story stage holder views first c at live idle each Idle t = refl
  nobody base story stage holder views first c at live idle each Entered t = let k = subst (KnowsTurn story stage holder holder t.0) t.2 (each holder t.0 t.1).turn in
      let h : t.0 ≡ first = (alone views first t.0 holder c at live t.1 k.2).1 in sym t.2 ∙ (ap (λ (z : View Base Entry). z.stage) h ∙ idle)
  nobody base story stage holder views first c at live idle each Ready t = let k = subst (KnowsTurn story stage holder holder t.0) t.2 (each holder t.0 t.1).turn in
      let h : t.0 ≡ first = (alone views first t.0 holder c at live t.1 k.2).1 in sym t.2 ∙ (ap (λ (z : View Base Entry). z.stage) h ∙ idle)
  nobody base story stage holder views first c at live idle each Out t = let k = subst (KnowsTurn story stage holder holder t.0) t.2 (each holder t.0 t.1).turn in
      let h : t.0 ≡ first = (alone views first t.0 holder c at live t.1 k.2).1 in sym t.2 ∙ (ap (λ (z : View Base Entry). z.stage) h ∙ idle)

  -- an idle pass knows nothing of the turn
  pub knows_idle : (story : List Entry) (stage : Stage) (holder id : ℕ) (view : View Base Entry) → view.stage ≡ Idle → KnowsTurn story stage holder id view view.stage
  knows_idle story stage holder id view idle = subst (KnowsTurn story stage holder id view) (sym idle) tt

  -- what a pass shows stays, where it comes to another stage of its turn
  pub lives_on : (id : ℕ) (view : View Base Entry) (base : Base) (story : List Entry) (stage : Stage) → Lives actor base story id view → Lives actor base story id (at_stage stage view)
  lives_on id view base story stage own = record { number_is = own.number_is; base_is = own.base_is; all_mine = own.all_mine; all_seen = own.all_seen }

  -- ---- what pass 0 has noted

  kept_set : (story story' : List Entry) (views : List (View Base Entry)) (id : ℕ) (new : View Base Entry) → new.live ≡ true → ((other : ℕ) → other ≢ id → entries_of actor other story' ≡ entries_of actor other story) → (joined : Ledger Entry)
      → IsKept actor story views joined → IsKept actor story' (set views id new) joined
  kept_set story story' views id new live same joined kept = record {
    spent = λ number view at dead. ⊎_elim (λ (t : (number ≡ id) × (new ≡ view)). absurd (true≢false (sym live ∙ (ap (λ (z : View Base Entry). z.live) t.1 ∙ dead))))
        (λ (t : (number ≢ id) × (get_elem? views number ≡ some view)). same number t.0 ∙ kept.spent number view t.1 dead) (at_set views id number new view at);
    unused = λ number above. let n = length-set views id new in kept.unused number (omega arith);
  }

  -- it stays so, where a pass that was not joined changes, and adds none but its own entries
  pub ledger_set : (story story' : List Entry) (views : List (View Base Entry)) (id : ℕ) (old new : View Base Entry) → get_elem? views id ≡ some old → new.live ≡ old.live → new.joined ≡ old.joined → old.live ≡ true
      → ((other : ℕ) → other ≢ id → entries_of actor other story' ≡ entries_of actor other story) → HasLedger actor story views → HasLedger actor story' (set views id new)
  ledger_set story story' views id old new at live joined alive same ledger first there = ⊎_elim
      (λ (t : (0 ≡ id) × (new ≡ first)). subst (IsKept actor story' (set views id new)) (sym joined ∙ ap (λ (z : View Base Entry). z.joined) t.1)
      (kept_set story story' views id new (live ∙ alive) same old.joined (ledger old (ap (get_elem? views) t.0 ∙ at))))
      (λ (t : (0 ≢ id) × (get_elem? views 0 ≡ some first)). kept_set story story' views id new (live ∙ alive) same first.joined (ledger first t.1))
      (at_set views id 0 new first there)

  kept_snoc : (story : List Entry) (views : List (View Base Entry)) (new : View Base Entry) → new.live ≡ true → (joined : Ledger Entry) → IsKept actor story views joined → IsKept actor story (views ++ new ∷ []) joined
  kept_snoc story views new live joined kept = record {
    spent = λ number view at dead. ⊎_elim (λ (t : get_elem? views number ≡ some view). kept.spent number view t dead)
        (λ (t : (length views ≡ number) × (new ≡ view)). absurd (true≢false (sym live ∙ (ap (λ (z : View Base Entry). z.live) t.1 ∙ dead)))) (at_end views new view number at);
    unused = λ number above. let n = length-append views (new ∷ []) in kept.unused number (omega arith);
  }

  -- and where one more pass is split off
  pub ledger_snoc : (story : List Entry) (views : List (View Base Entry)) (new : View Base Entry) → new.live ≡ true → 0 < length views → HasLedger actor story views → HasLedger actor story (views ++ new ∷ [])
  ledger_snoc story views new live some_yet ledger first there = ⊎_elim (λ (t : get_elem? views 0 ≡ some first). kept_snoc story views new live first.joined (ledger first t))
      (λ (t : (length views ≡ 0) × (new ≡ first)). let none_yet = t.0 in absurd (omega arith)) (at_end views new first 0 there)
