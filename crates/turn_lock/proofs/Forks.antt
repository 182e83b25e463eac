-- The lock at its start and at its end, and the steps of kinds 7 and 8.
use Rattle.std.proofs.Common.{◌≡◌, ◌≢◌, ◌⊎◌, ℕ, zero, suc, ◌+◌, ◌≤◌, Bool, true, false, true≢false, cond, eq-eqb, ne_eqb, List, [], ◌∷◌, ◌++◌, length, set, Option, Some, refl, sym, ap, ◌∙◌, subst, inl, inr, ⊎_elim, arith, length-set, length-append}
use mathlib.Core.Logic.{dite}
use mathlib.Core.Option.{none, some, some-injective, some-ne-none}
use mathlib.Core.Option as maybe
use mathlib.Core.List.{IsPrefix}
use native.Mathlib.Decide.{ℕ_discrete}
use lib.ListN.{get_elem?}
use Rattle.atomic_table.specs.Table.{State, opening, Splits, Joins}
use Rattle.atomic_table.proofs.Lists.{at_set, set_here, set_else, at_longer}
use Rattle.rel_base.specs.Stories.{entries_of}
use Rattle.rel_base.proofs.Stories.{entries_front}
use Rattle.turn_lock.specs.declared.rule.Stage.TheVariants.{Idle}
use Rattle.turn_lock.specs.declared.rule.View.{View}
use Rattle.turn_lock.specs.Ledger.{Ledger, made_by}
use Rattle.turn_lock.specs.Views.{one_if, first_view, split_view, new_view, joined_view, spent_view}
use Rattle.turn_lock.specs.Rule.{Fits, Whole, IsKept, HasLedger, count_live, Home, TurnRule}
use Rattle.turn_lock.proofs.Seats.{at_bound, at_none, at_end, each_set, count_set, whole_set, alone, count_snoc, has_whole, holder_set, holder_snoc, nobody, knows_idle, ledger_set, ledger_snoc}

-- the ledger with one more pass, by whether that has the number
noted_here : {Entry : Type 0} (number : ℕ) (pass : ℕ × List Entry) (joined : Ledger Entry) → pass.0 ≡ number → made_by number (pass ∷ joined) ≡ pass.1
noted_here number pass joined same = ap (λ (is : Bool). cond is pass.1 (made_by number joined)) (eq-eqb pass.0 number same)

noted_else : {Entry : Type 0} (number : ℕ) (pass : ℕ × List Entry) (joined : Ledger Entry) → pass.0 ≢ number → made_by number (pass ∷ joined) ≡ made_by number joined
noted_else number pass joined apart = ap (λ (is : Bool). cond is pass.1 (made_by number joined)) (ne_eqb pass.0 number apart)

module _ {Base Entry : Type 0} (actor : Entry → ℕ) where
  -- where pass 0 alone lives, each other number has the entries that its pass had made when it was joined
  module _ (story : List Entry) (views : List (View Base Entry)) (first : View Base Entry) (count : count_live views ≡ 1) (at : get_elem? views 0 ≡ some first) (live : first.live ≡ true) (ledger : HasLedger actor story views)
      (others : (number : ℕ) → length views ≤ number → entries_of actor number story ≡ []) (number : ℕ) (apart : number ≢ 0) where
    by_life : (view : View Base Entry) → get_elem? views number ≡ some view → (lives : Bool) → view.live ≡ lives → entries_of actor number story ≡ made_by number first.joined
    by_life view there true lives = absurd (apart (alone actor views first view number count at live there lives).0)
    by_life view there false lives = (ledger first at).spent number view there lives

    by_view : (found : maybe.Option (View Base Entry)) → get_elem? views number ≡ found → entries_of actor number story ≡ made_by number first.joined
    by_view (some view) there = by_life view there view.live refl
    by_view none missing = let above = at_none views number missing in others number above ∙ sym ((ledger first at).unused number above)

    pub all_joined : entries_of actor number story ≡ made_by number first.joined
    all_joined = by_view (get_elem? views number) refl

  -- what pass 0 notes of a pass that it joins
  module _ (story : List Entry) (views : List (View Base Entry)) (id other : ℕ) (view spent : View Base Entry) (at : get_elem? views id ≡ some view) (there : get_elem? views other ≡ some spent) (apart : other ≢ id)
      (live : view.live ≡ true) (alive : spent.live ≡ true) (zero_id : id ≡ 0) (number_is : spent.number ≡ other) (all_mine : entries_of actor other story ≡ spent.mine) (ledger : HasLedger actor story views) where
    abbrev changed : View Base Entry
    changed = joined_view view spent

    abbrev middle : List (View Base Entry)
    middle = set views id changed

    abbrev ends : List (View Base Entry)
    ends = set middle other spent_view

    was : IsKept actor story views view.joined
    was = ledger view (ap (get_elem? views) (sym zero_id) ∙ at)

    middle_spent : (number : ℕ) (one : View Base Entry) → number ≢ other → get_elem? middle number ≡ some one → one.live ≡ false → entries_of actor number story ≡ made_by number changed.joined
    middle_spent number one away stands dead = ⊎_elim (λ (t : (number ≡ id) × (changed ≡ one)). absurd (true≢false (sym live ∙ (ap (λ (z : View Base Entry). z.live) t.1 ∙ dead))))
        (λ (t : (number ≢ id) × (get_elem? views number ≡ some one)). was.spent number one t.1 dead ∙ sym (noted_else number (spent.number, spent.mine) view.joined (λ same. away (sym same ∙ number_is)))) (at_set views id number changed one stands)

    ends_spent : (number : ℕ) (one : View Base Entry) → get_elem? ends number ≡ some one → one.live ≡ false → entries_of actor number story ≡ made_by number changed.joined
    ends_spent number one stands dead = ⊎_elim
        (λ (t : (number ≡ other) × (spent_view ≡ one)). ap (λ (k : ℕ). entries_of actor k story) t.0 ∙ (all_mine ∙ sym (noted_here number (spent.number, spent.mine) view.joined (number_is ∙ sym t.0))))
        (λ (t : (number ≢ other) × (get_elem? middle number ≡ some one)). middle_spent number one t.0 t.1 dead) (at_set middle other number spent_view one stands)

    ends_unused : (number : ℕ) → length ends ≤ number → made_by number changed.joined ≡ []
    ends_unused number above =
        let n = length-set views id changed in
        let n' = length-set middle other spent_view in
        let inside = at_bound views other spent there in noted_else number (spent.number, spent.mine) view.joined (λ same. let k = number_is in omega arith) ∙ was.unused number (omega arith)

    changed_end : get_elem? ends 0 ≡ some changed
    changed_end = ap (get_elem? ends) (sym zero_id) ∙ (set_else middle other id spent_view (λ e. apart (sym e)) ∙ set_here views id changed (at_bound views id view at))

    pub ledger_joined : HasLedger actor story ends
    ledger_joined first stands = subst (IsKept actor story ends) (ap (λ (z : View Base Entry). z.joined) (some-injective changed first (sym changed_end ∙ stands))) (record { spent = ends_spent; unused = ends_unused })

module _ {Value Base Entry : Type 0} (base_of : Value → Base) (story_of : Value → List Entry) (actor : Entry → ℕ) where
  -- the table of a new lock meets the rule
  pub begins : (value : Value) → story_of value ≡ [] → TurnRule base_of story_of actor (opening (0 ∷ 0 ∷ []) (Some value ∷ []) (first_view (base_of value)))
  begins value none_yet = record {
    story = [];
    base = base_of value;
    stage = Idle;
    holder = 0;
    turn_word = 0;
    busy = refl;
    words = refl;
    home = (value, refl, none_yet, refl);
    each = one;
    held = tt;
    whole = record { place = 0; view = first_view (base_of value); stands = refl; live = refl; all = inl refl };
    first = record { view = first_view (base_of value); stands = refl; live = refl; count = refl; unjoined = refl };
    ledger = λ first at. subst (IsKept actor [] views) (ap (λ (z : View Base Entry). z.joined) (some-injective (first_view (base_of value)) first at)) (record { spent = λ _ _ _ _. refl; unused = λ _ _. refl });
    others = λ n _. refl;
  }
    where
      views : List (View Base Entry)
      views = first_view (base_of value) ∷ []

      one : (i : ℕ) (view : View Base Entry) → get_elem? (first_view (base_of value) ∷ []) i ≡ some view → Fits actor (base_of value) [] Idle 0 i view
      one zero view e = subst (Fits actor (base_of value) [] Idle 0 0) (some-injective _ _ e) (record { turn = tt; front = ([], refl); heard = ([], refl); lives = λ _. record { number_is = refl; base_is = refl; all_mine = refl; all_seen = refl } })
      one (suc i) view e = absurd (some-ne-none view (sym e))

  -- at the end pass 0 alone is left, the value is in the slot, and its story is what the pass has seen
  pub closes : (s : State (Option Value) (View Base Entry)) → TurnRule base_of story_of actor s → (id : ℕ) (view : View Base Entry) → get_elem? s.views id ≡ some view → view.number ≡ 0 → view.live ≡ true → view.stage ≡ Idle → view.told ≡ [] → view.joining ≡ false → view.left ≡ 0
      → (value : Value) × (s.homes ≡ some (Some value) ∷ []) × (story_of value ≡ view.seen) × (view.base ≡ Some (base_of value)) × ((number : ℕ) → number ≢ 0 → entries_of actor number (story_of value) ≡ made_by number view.joined)
  closes s r id view at number live idle untold settled joined =
      let fits = r.each id view at in
      let own = fits.lives live in
      let zero_id : id ≡ 0 = sym own.number_is ∙ number in
      let at0 : get_elem? s.views 0 ≡ some view = ap (get_elem? s.views) (sym zero_id) ∙ at in
      let first : r.first.view ≡ view = some-injective r.first.view view (sym r.first.stands ∙ at0) in
      let left : r.first.view.left ≡ 0 = ap (λ (z : View Base Entry). z.left) first ∙ joined in
      let none_joining : one_if r.first.view.joining ≡ 0 = ap one_if (ap (λ (z : View Base Entry). z.joining) first ∙ settled) in
      let counted = r.first.unjoined in
      let count : count_live s.views ≡ 1 = omega arith in
      let free : r.stage ≡ Idle = nobody actor r.base r.story r.stage r.holder s.views view count at0 live idle r.each r.stage r.held in
      let home = subst (Home base_of story_of r.base r.story s.homes) free r.home in
      let is : r.whole.view ≡ view = (alone actor s.views view r.whole.view r.whole.place count at0 live r.whole.stands r.whole.live).1 in
      let all : view.seen ≡ r.story = has_whole actor r.story view untold fits.front (subst (λ (z : View Base Entry). (z.seen ≡ r.story) ⊎ (z.told ≡ r.story)) is r.whole.all) in (
        home.0,
        home.1,
        home.2 ∙ sym all,
        own.base_is ∙ ap Some (sym home.3),
        λ other apart. ap (entries_of actor other) home.2 ∙ all_joined actor r.story s.views view count at0 live r.ledger r.others other apart,
      )

  -- kind 7
  pub splits : (id : ℕ) (view : View Base Entry) → view.number ≡ 0 → view.live ≡ true → view.stage ≡ Idle → Splits (TurnRule base_of story_of actor) id view (split_view view) (new_view view)
  splits id view number live idle s r at =
      let fits = r.each id view at in
      let own = fits.lives live in
      let zero_id : id ≡ 0 = sym own.number_is ∙ number in
      let at0 : get_elem? s.views 0 ≡ some view = ap (get_elem? s.views) (sym zero_id) ∙ at in
      let first : r.first.view ≡ view = some-injective r.first.view view (sym r.first.stands ∙ at0) in
      let size : length s.views ≡ view.made + 1 = r.first.count ∙ ap (λ (z : View Base Entry). z.made + 1) first in
      let joining : one_if r.first.view.joining ≡ one_if view.joining = ap (λ (z : View Base Entry). one_if z.joining) first in
      let left : r.first.view.left ≡ view.left = ap (λ (z : View Base Entry). z.left) first in
      let counted = r.first.unjoined in
      let changed : View Base Entry = split_view view in
      let new : View Base Entry = new_view view in
      let views : List (View Base Entry) = set s.views id changed in
      let n : length views ≡ length s.views = length-set s.views id changed in
      let inside = at_bound s.views id view at in
      let longer : length (views ++ new ∷ []) ≡ length views + 1 = length-append views (new ∷ []) in
      let nothing : entries_of actor (length s.views) r.story ≡ [] = r.others (length s.views) (omega arith) in
      let unseen : entries_of actor (length s.views) view.seen ≡ [] = entries_front actor (length s.views) view.seen r.story fits.front nothing in
      let new_fits : Fits actor r.base r.story r.stage r.holder (length views) new = record {
        turn = tt;
        front = fits.front;
        heard = (r.story, refl);
        lives = λ _. record { number_is = sym size ∙ sym n; base_is = own.base_is; all_mine = ap (λ (k : ℕ). entries_of actor k r.story) n ∙ nothing; all_seen = ap (λ (k : ℕ). entries_of actor k view.seen) n ∙ unseen };
      } in
      let olds = each_set actor (Fits actor r.base r.story r.stage r.holder) s.views id changed
      (record { turn = knows_idle actor r.story r.stage r.holder id changed idle; front = fits.front; heard = fits.heard; lives = λ _. record { number_is = own.number_is; base_is = own.base_is; all_mine = own.all_mine; all_seen = own.all_seen } })
      (λ j u _ e. r.each j u e) in
      let whole = whole_set actor r.story s.views id view changed at refl refl refl r.whole in
      let c = count_set actor s.views id view changed at in
      let d = count_snoc actor views new in record {
        story = r.story;
        base = r.base;
        stage = r.stage;
        holder = r.holder;
        turn_word = r.turn_word;
        busy = r.busy;
        words = r.words;
        home = r.home;
        each = λ j u e. ⊎_elim (λ (t : get_elem? views j ≡ some u). olds j u t) (λ (t : (length views ≡ j) × (new ≡ u)). subst (λ (x : ℕ × View Base Entry). Fits actor r.base r.story r.stage r.holder x.0 x.1) (λ i. (t.0 i, t.1 i)) new_fits) (at_end views new u j e);
        held = holder_snoc actor r.holder views new r.stage (holder_set actor r.holder s.views id view changed at refl r.stage r.held);
        whole = record { place = whole.place; view = whole.view; stands = at_longer views (new ∷ []) whole.place whole.view whole.stands; live = whole.live; all = whole.all };
        first = record {
          view = changed;
          stands = at_longer views (new ∷ []) 0 changed (ap (get_elem? views) (sym zero_id) ∙ set_here s.views id changed inside);
          live = live;
          count = omega arith;
          unjoined = let o : one_if view.live ≡ 1 = ap one_if live in omega arith;
        };
        ledger = ledger_snoc actor r.story views new refl (omega arith) (ledger_set actor r.story r.story s.views id view changed at refl refl live (λ _ _. refl) r.ledger);
        others = λ k l. r.others k (omega arith);
      }

  -- a pass that has the whole story has it after a join
  whole_joined : (story : List Entry) (views : List (View Base Entry)) (id other : ℕ) (view spent : View Base Entry) → get_elem? views id ≡ some view → get_elem? views other ≡ some spent → other ≢ id → view.live ≡ true → view.told ≡ [] → spent.told ≡ [] → IsPrefix view.seen story → IsPrefix spent.seen story
      → Whole story views → Whole story (set (set views id (joined_view view spent)) other spent_view)
  whole_joined story views id other view spent at there apart live untold unheard front front' whole =
      let changed : View Base Entry = joined_view view spent in
      let middle : List (View Base Entry) = set views id changed in
      let changed_end : get_elem? (set middle other spent_view) id ≡ some changed = set_else middle other id spent_view (λ e. apart (sym e)) ∙ set_here views id changed (at_bound views id view at) in
      dite (ℕ_discrete whole.place id)
      (λ is. let same : whole.view ≡ view = some-injective whole.view view (sym whole.stands ∙ (ap (get_elem? views) is ∙ at)) in
      record { place = id; view = changed; stands = changed_end; live = live; all = inl (has_whole actor story view untold front (subst (λ (z : View Base Entry). (z.seen ≡ story) ⊎ (z.told ≡ story)) same whole.all)) })
      (λ far. dite (ℕ_discrete whole.place other)
      (λ is. let same : whole.view ≡ spent = some-injective whole.view spent (sym whole.stands ∙ (ap (get_elem? views) is ∙ there)) in
      record { place = id; view = changed; stands = changed_end; live = live; all = inr (has_whole actor story spent unheard front' (subst (λ (z : View Base Entry). (z.seen ≡ story) ⊎ (z.told ≡ story)) same whole.all)) })
      (λ away. record { place = whole.place; view = whole.view; stands = set_else middle other whole.place spent_view away ∙ (set_else views id whole.place changed far ∙ whole.stands); live = whole.live; all = whole.all }))

  -- kind 8
  pub joins : (id : ℕ) (view : View Base Entry) (other : ℕ) (spent : View Base Entry) → view.number ≡ 0 → view.live ≡ true → view.stage ≡ Idle → view.told ≡ [] → view.joining ≡ false → spent.live ≡ true → spent.stage ≡ Idle → spent.told ≡ []
      → Joins (TurnRule base_of story_of actor) id view other spent (joined_view view spent) spent_view
  joins id view other spent number live idle untold settled alive free unheard s r at apart there =
      let fits = r.each id view at in
      let own = fits.lives live in
      let zero_id : id ≡ 0 = sym own.number_is ∙ number in
      let at0 : get_elem? s.views 0 ≡ some view = ap (get_elem? s.views) (sym zero_id) ∙ at in
      let first : r.first.view ≡ view = some-injective r.first.view view (sym r.first.stands ∙ at0) in
      let size : length s.views ≡ view.made + 1 = r.first.count ∙ ap (λ (z : View Base Entry). z.made + 1) first in
      let joining : one_if r.first.view.joining ≡ 0 = ap one_if (ap (λ (z : View Base Entry). z.joining) first ∙ settled) in
      let left : r.first.view.left ≡ view.left = ap (λ (z : View Base Entry). z.left) first in
      let counted = r.first.unjoined in
      let changed : View Base Entry = joined_view view spent in
      let gone : View Base Entry = spent_view in
      let views : List (View Base Entry) = set s.views id changed in
      let ends : List (View Base Entry) = set views other gone in
      let inside = at_bound s.views id view at in
      let there' : get_elem? s.views other ≡ some spent = sym (set_else s.views id other changed apart) ∙ there in
      let spent_fits = r.each other spent there' in
      let spent_own = spent_fits.lives alive in
      let n : length views ≡ length s.views = length-set s.views id changed in
      let n' : length ends ≡ length views = length-set views other gone in
      let changed_at : get_elem? views id ≡ some changed = set_here s.views id changed inside in
      let changed_end : get_elem? ends id ≡ some changed = set_else views other id gone (λ e. apart (sym e)) ∙ changed_at in
      let olds = each_set actor (Fits actor r.base r.story r.stage r.holder) s.views id changed
      (record { turn = knows_idle actor r.story r.stage r.holder id changed idle; front = fits.front; heard = spent_fits.front; lives = λ _. record { number_is = own.number_is; base_is = own.base_is; all_mine = own.all_mine; all_seen = own.all_seen } })
      (λ j z _ e. r.each j z e) in
      let c = count_set actor s.views id view changed at in
      let d = count_set actor views other spent gone there in
      let o : one_if view.live ≡ 1 = ap one_if live in
      let o' : one_if spent.live ≡ 1 = ap one_if alive in record {
        story = r.story;
        base = r.base;
        stage = r.stage;
        holder = r.holder;
        turn_word = r.turn_word;
        busy = r.busy;
        words = r.words;
        home = r.home;
        each = each_set actor (Fits actor r.base r.story r.stage r.holder) views other gone
            (record { turn = tt; front = (r.story, refl); heard = (r.story, refl); lives = λ l. absurd (true≢false (sym l)) })
            (λ j z _ e. olds j z e);
        held = holder_set actor r.holder views other spent gone there (sym free) r.stage (holder_set actor r.holder s.views id view changed at refl r.stage r.held);
        whole = whole_joined r.story s.views id other view spent at there' apart live untold unheard fits.front spent_fits.front r.whole;
        first = record {
          view = changed;
          stands = ap (get_elem? ends) (sym zero_id) ∙ changed_end;
          live = live;
          count = omega arith;
          unjoined = omega arith;
        };
        ledger = ledger_joined actor r.story s.views id other view spent at there' apart live alive zero_id spent_own.number_is spent_own.all_mine r.ledger;
        others = λ k l. r.others k (omega arith);
      }
