-- The steps on word 0 of a pass that has no turn, kinds 1 and 9, keep the rule of the lock and tell what they are said to tell.
use Rattle.std.proofs.Common.{◌≡◌, ℕ, ◌<◌, eqb, Bool, true, false, List, [], ◌∷◌, length, set, get_or, Option, refl, sym, ap, ◌∙◌, subst, inl, arith, length-set}
use Rattle.std.proofs.lemmas.Bool.{ne_eqb}
use mathlib.Core.Option.{some}
use prog.Atomic.{either}
use lib.ListN.{get_elem?}
use Rattle.atomic_table.specs.Table.{State, Me, Act, Valid, carried_after, keeps, stepped, Allows}
use Rattle.atomic_table.proofs.Lists.{set_again, set_here}
use Rattle.rel_base.proofs.Stories.{prefix_self}
use Rattle.turn_lock.specs.declared.rule.Stage.{Stage}
use Rattle.turn_lock.specs.declared.rule.Stage.TheVariants.{Idle, Entered, Ready, Out}
use Rattle.turn_lock.specs.declared.rule.View.{View}
use Rattle.turn_lock.specs.Views.{at_stage}
use Rattle.turn_lock.specs.Rule.{TurnWord, Fits, Home, TurnRule}
use Rattle.turn_lock.specs.Steps.{Entering, Marking}
use Rattle.turn_lock.proofs.Seats.{at_bound, fits_other, each_set, first_set, whole_set, lives_on, ledger_set}

-- a pass that finds the turn taken leaves word 0 as it is
missed_word : (taken word : ℕ) → 0 < word → either (eqb word 0) taken word ≡ word
missed_word taken word above = ap (λ (is : Bool). either is taken word) (ne_eqb word 0 (λ z. omega arith))

-- a mark on word 0 neither begins a turn nor ends one
two_or_above : (is : Bool) (word : ℕ) → 0 < word → 0 < either is 2 word
two_or_above true word above = omega arith
two_or_above false word above = above

marked_word : (stage : Stage) (word : ℕ) → TurnWord stage word → TurnWord stage (either (eqb word 1) 2 word)
marked_word Idle word free = ap (λ (w : ℕ). either (eqb w 1) 2 w) free
marked_word Entered word busy = two_or_above (eqb word 1) word busy
marked_word Ready word busy = two_or_above (eqb word 1) word busy
marked_word Out word busy = two_or_above (eqb word 1) word busy

module _ {Value Base Entry : Type 0} (base_of : Value → Base) (story_of : Value → List Entry) (actor : Entry → ℕ) where
  -- a step that changes nothing but word 0, which is as much in a turn as it was
  unmoved : (s : State (Option Value) (View Base Entry)) (r : TurnRule base_of story_of actor s) (word : ℕ) → TurnWord r.stage word → (ws : List ℕ) → ws ≡ word ∷ length r.story ∷ [] → (id : ℕ) (view : View Base Entry) → get_elem? s.views id ≡ some view
      → TurnRule base_of story_of actor record { words = ws; homes = s.homes; views = set s.views id view }
  unmoved s r word busy ws e id view at = subst (λ (views : List (View Base Entry)). TurnRule base_of story_of actor record { words = ws; homes = s.homes; views = views }) (sym (set_again s.views id view at)) (record {
    story = r.story;
    base = r.base;
    stage = r.stage;
    holder = r.holder;
    turn_word = word;
    busy = busy;
    words = e;
    home = r.home;
    each = r.each;
    held = r.held;
    whole = r.whole;
    first = r.first;
    ledger = r.ledger;
    others = r.others;
  })

  module _ (slots id : ℕ) (me : Me (Option Value) (View Base Entry)) where
    enter_free : (taken : ℕ) → 0 < taken → (s : State (Option Value) (View Base Entry)) (r : TurnRule base_of story_of actor s) → me.0.live ≡ true → get_elem? s.views id ≡ some me.0 → r.stage ≡ Idle → r.turn_word ≡ 0
        → TurnRule base_of story_of actor (stepped s 0 (either (eqb (get_or s.words 0 0) 0) taken (get_or s.words 0 0)) id me.1 (at_stage Entered me.0) keeps)
    enter_free taken above s r live at is free =
        let view : View Base Entry = me.0 in
        let new : View Base Entry = at_stage Entered view in
        let fits = r.each id view at in
        let n = length-set s.views id new in record {
          story = r.story;
          base = r.base;
          stage = Entered;
          holder = id;
          turn_word = taken;
          busy = above;
          words = ap (λ ws. set ws 0 (either (eqb (get_or ws 0 0) 0) taken (get_or ws 0 0))) r.words ∙ ap (λ (word : ℕ). either (eqb word 0) taken word ∷ length r.story ∷ []) free;
          home = subst (Home base_of story_of r.base r.story s.homes) is r.home;
          each = each_set actor (Fits actor r.base r.story Entered id) s.views id new
              (record { turn = (refl, refl, live); front = fits.front; heard = fits.heard; lives = λ _. lives_on actor id view r.base r.story Entered (fits.lives live) })
              (λ j u apart e. fits_other actor r.base r.story r.story r.stage Entered r.holder id j u (inl is) apart (prefix_self r.story) refl (r.each j u e));
          held = (new, set_here s.views id new (at_bound s.views id view at), refl);
          whole = whole_set actor r.story s.views id view new at refl refl refl r.whole;
          first = first_set actor s.views id view new at refl refl refl refl r.first;
          ledger = ledger_set actor r.story r.story s.views id view new at refl refl live (λ _ _. refl) r.ledger;
          others = λ k l. r.others k (omega arith);
        }

    enter_busy : (taken : ℕ) (s : State (Option Value) (View Base Entry)) (r : TurnRule base_of story_of actor s) → get_elem? s.views id ≡ some me.0 → 0 < r.turn_word
        → TurnRule base_of story_of actor (stepped s 0 (either (eqb (get_or s.words 0 0) 0) taken (get_or s.words 0 0)) id me.1 me.0 keeps)
    enter_busy taken s r at busy = unmoved s r r.turn_word r.busy _
        (ap (λ ws. set ws 0 (either (eqb (get_or ws 0 0) 0) taken (get_or ws 0 0))) r.words ∙ ap (λ (word : ℕ). word ∷ length r.story ∷ []) (missed_word taken r.turn_word busy))
        id
        me.0
        at

    -- what the first step may do in a table
    abbrev EntersIn : ℕ → State (Option Value) (View Base Entry) → Type 0
    EntersIn taken s = (w : View Base Entry) × (a : Act (Option Value)) × Valid s.homes me.1 a
        × TurnRule base_of story_of actor (stepped s 0 (either (eqb (get_or s.words 0 0) 0) taken (get_or s.words 0 0)) id me.1 w a) × Entering me (get_or s.words 0 0) (w, carried_after me.1 a)

    -- kind 1
    pub enters : (taken : ℕ) → 0 < taken → me.0.live ≡ true → Allows (TurnRule base_of story_of actor) slots id me 0 (λ n. either (eqb n 0) taken n) (Entering me)
    enters taken above live s r _ at _ = by_stage r.stage refl
      where
        word : get_or s.words 0 0 ≡ r.turn_word
        word = ap (λ ws. get_or ws 0 0) r.words

        busy_at : 0 < r.turn_word → EntersIn taken s
        busy_at busy = (me.0, keeps, tt, enter_busy taken s r at busy, record { got = λ z. let found = word in absurd (omega arith); missed = λ _. refl; slots = refl })

        by_stage : (stage : Stage) → r.stage ≡ stage → EntersIn taken s
        by_stage Idle is =
            let free : r.turn_word ≡ 0 = subst (λ (z : Stage). TurnWord z r.turn_word) is r.busy in
            (at_stage Entered me.0, keeps, tt, enter_free taken above s r live at is free, record { got = λ _. refl; missed = λ ne. absurd (ne (word ∙ free)); slots = refl })
        by_stage Entered is = busy_at (subst (λ (z : Stage). TurnWord z r.turn_word) is r.busy)
        by_stage Ready is = busy_at (subst (λ (z : Stage). TurnWord z r.turn_word) is r.busy)
        by_stage Out is = busy_at (subst (λ (z : Stage). TurnWord z r.turn_word) is r.busy)

    -- kind 9
    pub marks : Allows (TurnRule base_of story_of actor) slots id me 0 (λ n. either (eqb n 1) 2 n) (λ _. Marking me)
    marks s r _ at _ = (
      me.0,
      keeps,
      tt,
      unmoved s r (either (eqb r.turn_word 1) 2 r.turn_word) (marked_word r.stage r.turn_word r.busy) _ (ap (λ ws. set ws 0 (either (eqb (get_or ws 0 0) 1) 2 (get_or ws 0 0))) r.words) id me.0 at,
      refl,
    )
