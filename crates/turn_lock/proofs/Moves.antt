-- The steps of kinds 2 to 6 keep the rule of the lock and tell what they are said to tell.
use Rattle.std.proofs.Common.{◌≡◌, ◌≢◌, ℕ, ◌+◌, true, List, [], ◌∷◌, ◌++◌, length, set, get_or, All, Option, Some, None, refl, sym, ap, ◌∙◌, subst, inr, arith, length-set}
use mathlib.Core.Option.{none, some, some-injective}
use mathlib.Core.List.{IsPrefix}
use lib.ListN.{get_elem?}
use Rattle.atomic_table.specs.Table.{State, Me, keeps, takes, gives, put_back, Allows}
use Rattle.atomic_table.proofs.Lists.{set_here}
use Rattle.rel_base.specs.Stories.{entries_of}
use Rattle.rel_base.proofs.Stories.{entries_grown, entries_kept, prefix_self, prefix_trans}
use Rattle.turn_lock.specs.declared.rule.Stage.{Stage}
use Rattle.turn_lock.specs.declared.rule.Stage.TheVariants.{Idle, Entered, Ready, Out}
use Rattle.turn_lock.specs.declared.rule.View.{View}
use Rattle.turn_lock.specs.Views.{one_if, after_look, at_stage, published_view, looked_view}
use Rattle.turn_lock.specs.Rule.{TurnWord, KnowsTurn, Fits, Home, TurnRule}
use Rattle.turn_lock.specs.Steps.{TakingOut, PuttingBack, Publishing, Leaving, ReadingLength}
use Rattle.turn_lock.proofs.Seats.{at_bound, fits_other, each_set, first_set, first_looked, whole_set, whole_here, some_live, holder_set, knows_idle, lives_on, ledger_set}

append_cancel : {A : Type 0} (xs ys zs : List A) → xs ++ ys ≡ xs ++ zs → ys ≡ zs
append_cancel [] ys zs e = e
append_cancel (x ∷ xs) ys zs e = append_cancel xs ys zs (cc (e))

-- the value in the first slot of a list, and another one where there is none
abbrev value_or : {Value : Type 0} → Value → Option Value → Value
value_or default None = default
value_or default (Some value) = value

abbrev slot_value : {Value : Type 0} → Value → List (ℕ × Option Value) → Value
slot_value default [] = default
slot_value default (slot ∷ slots) = value_or default slot.1

module _ {Value Base Entry : Type 0} (base_of : Value → Base) (story_of : Value → List Entry) (actor : Entry → ℕ) where
  module _ (slots id : ℕ) (me : Me (Option Value) (View Base Entry)) where
    -- kind 2
    pub takes_out : me.0.live ≡ true → me.0.stage ≡ Ready → Allows (TurnRule base_of story_of actor) slots id me 0 (λ n. n) (λ _. TakingOut base_of story_of me)
    takes_out live ready s r _ at _ =
        let view : View Base Entry = me.0 in
        let fits = r.each id view at in
        let own = fits.lives live in
        let k = subst (KnowsTurn r.story r.stage r.holder id view) ready fits.turn in
        let home = subst (Home base_of story_of r.base r.story s.homes) k.1 r.home in
        let new : View Base Entry = at_stage Out view in
        let n = length-set s.views id new in (
          new,
          takes 0 (Some home.0),
          ap (λ l. get_elem? l 0) home.1,
          record {
            story = r.story;
            base = r.base;
            stage = Out;
            holder = id;
            turn_word = r.turn_word;
            busy = subst (λ (z : Stage). TurnWord z r.turn_word) k.1 r.busy;
            words = ap (λ ws. set ws 0 (get_or ws 0 0)) r.words;
            home = ap (λ l. set l 0 none) home.1;
            each = each_set actor (Fits actor r.base r.story Out id) s.views id new
                (record { turn = (refl, refl, live, k.3); front = fits.front; heard = fits.heard; lives = λ _. lives_on actor id view r.base r.story Out own })
                (λ j u apart e. fits_other actor r.base r.story r.story r.stage Out r.holder id j u (inr (sym k.0)) apart (prefix_self r.story) refl (r.each j u e));
            held = (new, set_here s.views id new (at_bound s.views id view at), refl);
            whole = whole_set actor r.story s.views id view new at refl refl refl r.whole;
            first = first_set actor s.views id view new at refl refl refl refl r.first;
            ledger = ledger_set actor r.story r.story s.views id view new at refl refl live (λ _ _. refl) r.ledger;
            others = λ j l. r.others j (omega arith);
          },
          record { value = home.0; slots = refl; view = refl; story = home.2 ∙ sym k.3; base = own.base_is ∙ ap Some (sym home.3) },
        )

    -- kind 3
    pub puts_back : (value : Value) → me.0.live ≡ true → me.0.stage ≡ Out → me.1 ≡ (0, Some value) ∷ [] → story_of value ≡ me.0.seen → me.0.base ≡ Some (base_of value)
        → Allows (TurnRule base_of story_of actor) slots id me 0 (λ n. n) (λ _. PuttingBack me)
    puts_back value live out hand same base s r _ at _ =
        let view : View Base Entry = me.0 in
        let fits = r.each id view at in
        let own = fits.lives live in
        let k = subst (KnowsTurn r.story r.stage r.holder id view) out fits.turn in
        let home = subst (Home base_of story_of r.base r.story s.homes) k.1 r.home in
        let new : View Base Entry = at_stage Ready view in
        let n = length-set s.views id new in (
          new,
          gives,
          tt,
          record {
            story = r.story;
            base = r.base;
            stage = Ready;
            holder = id;
            turn_word = r.turn_word;
            busy = subst (λ (z : Stage). TurnWord z r.turn_word) k.1 r.busy;
            words = ap (λ ws. set ws 0 (get_or ws 0 0)) r.words;
            home = (value, (λ i. put_back (home i) (hand i)), same ∙ k.3, cc (base, own.base_is));
            each = each_set actor (Fits actor r.base r.story Ready id) s.views id new
                (record { turn = (refl, refl, live, k.3); front = fits.front; heard = fits.heard; lives = λ _. lives_on actor id view r.base r.story Ready own })
                (λ j u apart e. fits_other actor r.base r.story r.story r.stage Ready r.holder id j u (inr (sym k.0)) apart (prefix_self r.story) refl (r.each j u e));
            held = (new, set_here s.views id new (at_bound s.views id view at), refl);
            whole = whole_set actor r.story s.views id view new at refl refl refl r.whole;
            first = first_set actor s.views id view new at refl refl refl refl r.first;
            ledger = ledger_set actor r.story r.story s.views id view new at refl refl live (λ _ _. refl) r.ledger;
            others = λ j l. r.others j (omega arith);
          },
          record { slots = refl; view = refl },
        )

    -- kind 4
    pub publishes : (value : Value) (news : List Entry) (long : ℕ) → me.0.live ≡ true → me.0.stage ≡ Out → me.1 ≡ (0, Some value) ∷ [] → story_of value ≡ me.0.seen ++ news → All (λ entry. actor entry ≡ me.0.number) news → long ≡ length (story_of value)
        → Allows (TurnRule base_of story_of actor) slots id me 1 (λ _. long) (λ _. Publishing story_of me)
    publishes value news long live out hand grown own_news is_long s r _ at _ =
        let view : View Base Entry = me.0 in
        let fits = r.each id view at in
        let own = fits.lives live in
        let k = subst (KnowsTurn r.story r.stage r.holder id view) out fits.turn in
        let home = subst (Home base_of story_of r.base r.story s.homes) k.1 r.home in
        let story' : List Entry = story_of value in
        let more : story' ≡ r.story ++ news = grown ∙ ap (λ l. l ++ news) k.3 in
        let own' : All (λ entry. actor entry ≡ id) news = subst (λ (i : ℕ). All (λ entry. actor entry ≡ i) news) own.number_is own_news in
        let theirs : (j : ℕ) → j ≢ id → entries_of actor j story' ≡ entries_of actor j r.story = λ j apart. entries_kept actor id j r.story news story' apart more own' in
        let ours : entries_of actor id story' ≡ view.mine ++ news = entries_grown actor id r.story news view.mine story' more own' own.all_mine in
        let new : View Base Entry = published_view story' (view.mine ++ news) view in
        let inside = at_bound s.views id view at in
        let size = length-set s.views id new in
        let begins_with : IsPrefix r.story story' = (news, sym more) in (
          new,
          keeps,
          tt,
          record {
            story = story';
            base = r.base;
            stage = Out;
            holder = id;
            turn_word = r.turn_word;
            busy = subst (λ (z : Stage). TurnWord z r.turn_word) k.1 r.busy;
            words = ap (λ ws. set ws 1 long) r.words ∙ (λ i. r.turn_word ∷ is_long i ∷ []);
            home = home;
            each = each_set actor (Fits actor r.base story' Out id) s.views id new
                (record {
                  turn = subst (KnowsTurn story' Out id id new) (sym out) (refl, refl, live, refl);
                  front = prefix_self story';
                  heard = prefix_trans view.told r.story story' fits.heard begins_with;
                  lives = λ _. record { number_is = own.number_is; base_is = own.base_is; all_mine = ours; all_seen = ours };
                })
                (λ j u apart e. fits_other actor r.base r.story story' r.stage Out r.holder id j u (inr (sym k.0)) apart begins_with (theirs j apart) (r.each j u e));
            held = (new, set_here s.views id new inside, out);
            whole = whole_here actor story' s.views id new inside live refl;
            first = first_set actor s.views id view new at refl refl refl refl r.first;
            ledger = ledger_set actor r.story story' s.views id view new at refl refl live theirs r.ledger;
            others = λ j l. theirs j (λ e. absurd (omega arith)) ∙ r.others j (omega arith);
          },
          λ other others hand' grown'.
              let same : value ≡ other = ap (slot_value value) (sym hand ∙ hand') in
              let same_news : news ≡ others = append_cancel view.seen news others (sym grown ∙ (ap story_of same ∙ grown')) in
              (refl, λ i. published_view (story_of (same i)) (view.mine ++ same_news i) view),
        )

    -- kind 5
    pub leaves : me.0.live ≡ true → me.0.stage ≡ Ready → Allows (TurnRule base_of story_of actor) slots id me 0 (λ _. 0) (λ _. Leaving me)
    leaves live ready s r _ at _ =
        let view : View Base Entry = me.0 in
        let fits = r.each id view at in
        let k = subst (KnowsTurn r.story r.stage r.holder id view) ready fits.turn in
        let new : View Base Entry = at_stage Idle view in
        let n = length-set s.views id new in (
          new,
          keeps,
          tt,
          record {
            story = r.story;
            base = r.base;
            stage = Idle;
            holder = id;
            turn_word = 0;
            busy = refl;
            words = ap (λ ws. set ws 0 0) r.words;
            home = subst (Home base_of story_of r.base r.story s.homes) k.1 r.home;
            each = each_set actor (Fits actor r.base r.story Idle id) s.views id new
                (record { turn = tt; front = fits.front; heard = fits.heard; lives = λ _. lives_on actor id view r.base r.story Idle (fits.lives live) })
                (λ j u apart e. fits_other actor r.base r.story r.story r.stage Idle r.holder id j u (inr (sym k.0)) apart (prefix_self r.story) refl (r.each j u e));
            held = tt;
            whole = whole_set actor r.story s.views id view new at refl refl refl r.whole;
            first = first_set actor s.views id view new at refl refl refl refl r.first;
            ledger = ledger_set actor r.story r.story s.views id view new at refl refl live (λ _ _. refl) r.ledger;
            others = λ j l. r.others j (omega arith);
          },
          record { slots = refl; view = refl },
        )

    -- what a look tells
    look_tells : (s : State (Option Value) (View Base Entry)) (r : TurnRule base_of story_of actor s) → me.0.live ≡ true → get_elem? s.views id ≡ some me.0 → ReadingLength actor me (get_or s.words 1 0) (looked_view r.story me.0, me.1)
    look_tells s r live at =
        let fits = r.each id me.0 at in
        let own = fits.lives live in record {
          story = r.story;
          slots = refl;
          view = refl;
          later = fits.front;
          heard = fits.heard;
          own = ap (λ (k : ℕ). entries_of actor k r.story) own.number_is ∙ own.all_mine;
          ahead = λ is k above. let size = r.first.count ∙ ap (λ (view : View Base Entry). view.made + 1) (is_first is) in r.others k (omega arith);
          joined = λ is joining.
              let counted = r.first.unjoined ∙ ap (λ (view : View Base Entry). view.left + 1) (is_first is) in
              let one : one_if r.first.view.joining ≡ 1 = ap one_if (ap (λ (view : View Base Entry). view.joining) (is_first is) ∙ joining) in
              let alive = some_live actor s.views id me.0 at live in omega arith;
          long = sym (ap (λ ws. get_or ws 1 0) r.words);
        }
      where
        is_first : me.0.number ≡ 0 → r.first.view ≡ me.0
        is_first is = some-injective r.first.view me.0 (sym r.first.stands ∙ (ap (get_elem? s.views) (sym is ∙ ((r.each id me.0 at).lives live).number_is) ∙ at))

    -- kind 6, outside a turn
    pub looks_idle : me.0.live ≡ true → me.0.stage ≡ Idle → Allows (TurnRule base_of story_of actor) slots id me 1 (λ n. n) (ReadingLength actor me)
    looks_idle live idle s r _ at _ =
        let view : View Base Entry = me.0 in
        let fits = r.each id view at in
        let own = fits.lives live in
        let new : View Base Entry = looked_view r.story view in
        let still : new.stage ≡ Idle = ap after_look idle in
        let n = length-set s.views id new in (
          new,
          keeps,
          tt,
          record {
            story = r.story;
            base = r.base;
            stage = r.stage;
            holder = r.holder;
            turn_word = r.turn_word;
            busy = r.busy;
            words = ap (λ ws. set ws 1 (get_or ws 1 0)) r.words;
            home = r.home;
            each = each_set actor (Fits actor r.base r.story r.stage r.holder) s.views id new
                (record {
                  turn = knows_idle actor r.story r.stage r.holder id new still;
                  front = prefix_self r.story;
                  heard = (r.story, refl);
                  lives = λ _. record { number_is = own.number_is; base_is = own.base_is; all_mine = own.all_mine; all_seen = own.all_mine };
                })
                (λ j u _ e. r.each j u e);
            held = holder_set actor r.holder s.views id view new at (still ∙ sym idle) r.stage r.held;
            whole = whole_here actor r.story s.views id new (at_bound s.views id view at) live refl;
            first = first_looked actor s.views id view new at refl live refl refl refl r.first;
            ledger = ledger_set actor r.story r.story s.views id view new at refl refl live (λ _ _. refl) r.ledger;
            others = λ k l. r.others k (omega arith);
          },
          look_tells s r live at,
        )

    -- kind 6, in a turn
    pub looks_entered : me.0.live ≡ true → me.0.stage ≡ Entered → Allows (TurnRule base_of story_of actor) slots id me 1 (λ n. n) (ReadingLength actor me)
    looks_entered live entered s r _ at _ =
        let view : View Base Entry = me.0 in
        let fits = r.each id view at in
        let own = fits.lives live in
        let k = subst (KnowsTurn r.story r.stage r.holder id view) entered fits.turn in
        let new : View Base Entry = looked_view r.story view in
        let ready : new.stage ≡ Ready = ap after_look entered in
        let n = length-set s.views id new in (
          new,
          keeps,
          tt,
          record {
            story = r.story;
            base = r.base;
            stage = Ready;
            holder = id;
            turn_word = r.turn_word;
            busy = subst (λ (z : Stage). TurnWord z r.turn_word) k.1 r.busy;
            words = ap (λ ws. set ws 1 (get_or ws 1 0)) r.words;
            home = subst (Home base_of story_of r.base r.story s.homes) k.1 r.home;
            each = each_set actor (Fits actor r.base r.story Ready id) s.views id new
                (record {
                  turn = subst (KnowsTurn r.story Ready id id new) (sym ready) (refl, refl, live, refl);
                  front = prefix_self r.story;
                  heard = (r.story, refl);
                  lives = λ _. record { number_is = own.number_is; base_is = own.base_is; all_mine = own.all_mine; all_seen = own.all_mine };
                })
                (λ j u apart e. fits_other actor r.base r.story r.story r.stage Ready r.holder id j u (inr (sym k.0)) apart (prefix_self r.story) refl (r.each j u e));
            held = (new, set_here s.views id new (at_bound s.views id view at), ready);
            whole = whole_here actor r.story s.views id new (at_bound s.views id view at) live refl;
            first = first_looked actor s.views id view new at refl live refl refl refl r.first;
            ledger = ledger_set actor r.story r.story s.views id view new at refl refl live (λ _ _. refl) r.ledger;
            others = λ j l. r.others j (omega arith);
          },
          look_tells s r live at,
        )
