-- One position placed: what is left, and what is made.
use Rattle.std.proofs.Common.{ap, append_assoc, arith, cond, length, map, not, refl, reverse, subst, suc, sym, zero, Bool, List, MatchOption, None, Option, Some, true, false, [], ◌+◌, ◌++◌, ◌-◌, ◌==◌, ◌∙◌, ◌≡◌, ◌&&◌, ◌∷◌, ℕ, ⊎_elim}
use Rattle.std.specs.Option.{option_map, unwrap_or}
use Rattle.std.proofs.lemmas.Bool.Decides.{eqb_tells}
use Rattle.std.proofs.lemmas.List.{append-nil}
use Rattle.node_model.specs.Order.{is_free, order, order_from, place, take_first}
use Rattle.serial_order.proofs.Mapped.{take_first-map}
use Rattle.serial_order.proofs.Maps.{map_reverse}
use Rattle.serial_order.proofs.Unreached.{comers-cons}
use Rattle.serial_order.proofs.Taken.{IsTaken, Takes, here, taken, takes_length, there}
use Rattle.serial_order.specs.Counts.{IsLeft, predecessors, entries, entry_of, has_none, lowered}
use Rattle.serial_order.specs.declared.left.Left.{Left}

sum_free : (b : Bool) (n : ℕ) (c : Bool) → (n == 0) ≡ c → ((cond b 1 0 + n) == 0) ≡ (not b && c)
sum_free true n c e = ⊎_elim (λ same. absurd (omega (arith, same.1))) (λ other. other.0) (eqb_tells (1 + n) 0)
sum_free false n c e = let same : 0 + n ≡ n = omega arith in ap (λ m. m == 0) same ∙ e

module _ (has : ℕ → ℕ → Bool) where
  comers_free : (set : List ℕ) (to : ℕ) → (predecessors has set to == 0) ≡ is_free has set to
  comers_free [] to = refl
  comers_free (from ∷ rest) to = ap (λ n. n == 0) (comers-cons has to from rest) ∙ sum_free (has from to) (predecessors has rest to) _ (comers_free rest to)

  comers_takes : {from : ℕ} (to : ℕ) (set rest : List ℕ) → Takes from set rest → predecessors has set to ≡ cond (has from to) 1 0 + predecessors has rest to
  comers_takes {from} to set rest here = comers-cons has to from rest
  comers_takes to set rest (there {x = x} {xs = xs} {rest = more} t) =
      let e = comers_takes to xs more t in omega (arith, e, comers-cons has to x xs, comers-cons has to x more)

  lowered_entries : {from : ℕ} (set rest : List ℕ) → Takes from set rest → (ys : List ℕ) → map (lowered has from) (map (entry_of has set) ys) ≡ map (entry_of has rest) ys
  lowered_entries set rest t [] = refl
  lowered_entries {from} set rest t (y ∷ ys) =
      let e : predecessors has set y - cond (has from y) 1 0 ≡ predecessors has rest y = omega (arith, comers_takes y set rest t) in
      ap (λ n. record { pos = y; predecessors = n } ∷ map (lowered has from) (map (entry_of has set) ys)) e ∙ ap (λ l. entry_of has rest y ∷ l) (lowered_entries set rest t ys)

  abbrev both : List ℕ → ℕ × List ℕ → Left × List Left
  both set taken = (entry_of has set taken.0, map (entry_of has set) taken.1)

  first_entry : (left : List Left) (set : List ℕ) → left ≡ entries has set → take_first has_none left ≡ option_map (both set) (take_first (is_free has set) set)
  first_entry left set e = ap (take_first has_none) e ∙ take_first-map (entry_of has set) (is_free has set) has_none set (λ to h. comers_free set to)

  from_none : (n : ℕ) (set : List ℕ) → take_first (is_free has set) set ≡ None → order_from has n set ≡ []
  from_none zero set e = refl
  from_none (suc n) set e = ap (place (order_from has n)) e

  none_of : {A B : Type 0} (f : A → B) (o : Option A) → option_map f o ≡ None → o ≡ None
  none_of f None e = refl
  none_of f (Some x) e = cc

  module _ (all : List ℕ) where
    done : (left : List Left) (list : List ℕ) → IsLeft has all left list → take_first has_none left ≡ None → list ≡ order has all
    done left list h none =
        sym (append-nil list) ∙ ap (λ l. list ++ l) (sym (from_none (length h.set) h.set (none_of (both h.set) _ (sym (first_entry left h.set h.counted) ∙ none)))) ∙ h.whole

    step : (left : List Left) (list : List ℕ) (r : Left × List Left) → IsLeft has all left list → take_first has_none left ≡ Some r → IsLeft has all (map (lowered has r.0.pos) r.1) (list ++ r.0.pos ∷ [])
    step left list r h some = found (take_first (is_free has h.set) h.set) refl (taken (is_free has h.set) h.set)
      where
        found : (o : Option (ℕ × List ℕ)) → take_first (is_free has h.set) h.set ≡ o → IsTaken (is_free has h.set) h.set o → IsLeft has all (map (lowered has r.0.pos) r.1) (list ++ r.0.pos ∷ [])
        found None e t = let bad : None ≡ Some r = sym (first_entry left h.set h.counted ∙ ap (option_map (both h.set)) e) ∙ some in cc
        found (Some s) e t =
            let same : both h.set s ≡ r = ap (λ o. unwrap_or o r) (sym (first_entry left h.set h.counted ∙ ap (option_map (both h.set)) e) ∙ some) in
            subst (λ r. IsLeft has all (map (lowered has r.0.pos) r.1) (list ++ r.0.pos ∷ [])) same (record {
              set = s.1;
              counted = lowered_entries h.set s.1 t.0 s.1;
              whole = append_assoc list (s.0 ∷ []) _ ∙ ap (λ l. list ++ l) (sym (first s e t.0)) ∙ h.whole;
            })
          where
            first : (s : ℕ × List ℕ) → take_first (is_free has h.set) h.set ≡ Some s → Takes s.0 h.set s.1 → order_from has (length h.set) h.set ≡ s.0 ∷ order_from has (length s.1) s.1
            first s e t = let long : length h.set ≡ suc (length s.1) = omega (arith, takes_length h.set s.1 t) in
                ap (λ n. order_from has n h.set) long ∙ ap (place (order_from has (length s.1))) e

    -- as the clause of `take_free` says it
    step_of : (left new : List Left) (list : List ℕ) (result : Option ℕ) (from : ℕ) (X : Type 0) (o : Option (Left × List Left)) → take_first has_none left ≡ o
        → MatchOption o ((result ≡ None) × X) (λ r. (result ≡ Some r.0.pos) × (new ≡ r.1)) → result ≡ Some from → IsLeft has all left list → IsLeft has all (map (lowered has from) new) (list ++ from ∷ [])
    step_of left new list result from X None e m is h = let bad : None ≡ Some from = sym m.0 ∙ is in cc
    step_of left new list result from X (Some r) e m is h =
        let same : r.0.pos ≡ from = ap (λ o. unwrap_or o from) (sym m.0 ∙ is) in
        subst (λ f. IsLeft has all (map (lowered has f) new) (list ++ f ∷ [])) same
        (subst (λ l. IsLeft has all (map (lowered has r.0.pos) l) (list ++ r.0.pos ∷ [])) (sym m.1) (step left list r h e))

    -- the same of entries that stand in reverse order
    pub step_back : (left new : List Left) (list : List ℕ) (result : Option ℕ) (from : ℕ) (X : Type 0) (o : Option (Left × List Left)) → take_first has_none (reverse left) ≡ o
        → MatchOption o ((result ≡ None) × X) (λ r. (result ≡ Some r.0.pos) × (reverse new ≡ r.1)) → result ≡ Some from → IsLeft has all (reverse left) list
        → IsLeft has all (reverse (map (lowered has from) new)) (list ++ from ∷ [])
    step_back left new list result from X o e m is h =
        subst (λ l. IsLeft has all l (list ++ from ∷ [])) (map_reverse (lowered has from) new) (step_of (reverse left) (reverse new) list result from X o e m is h)

    pub done_of : (left new : List Left) (list : List ℕ) (result : Option ℕ) (X : Type 0) (o : Option (Left × List Left)) → take_first has_none left ≡ o
        → MatchOption o ((result ≡ None) × X) (λ r. (result ≡ Some r.0.pos) × (new ≡ r.1)) → result ≡ None → IsLeft has all left list → list ≡ order has all
    done_of left new list result X None e m is h = done left list h e
    done_of left new list result X (Some r) e m is h = let bad : None ≡ Some r.0.pos = sym is ∙ m.0 in cc
