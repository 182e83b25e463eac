-- What is found at a place, word by word, and at the places of some items, item by item.
use Rattle.std.proofs.Common.{ap, arith, false, length, refl, suc, sym, true, zero, Bool, List, [], ◌∷◌, ◌%◌, ◌&&◌, ◌*◌, ◌+◌, ◌-◌, ◌/◌, ◌<◌, ◌∙◌, ◌≡◌, ◌≤◌, ◌||◌, ℕ, ⊎_elim, slice_index}
use Rattle.std.specs.Bool.{nat_eq, nat_lt}
use Rattle.std.specs.List.{list_any}
use Rattle.std.specs.Prelude.{◌≢◌}
use Rattle.std.proofs.lemmas.Bool.{cases_lt, le-ltb, lt-ltb}
use Rattle.std.proofs.lemmas.Bool.Decides.{eqb_tells}
use Rattle.std.proofs.lemmas.Nat.Bits.{bit_at-zero}
use Rattle.conflict_rules.specs.Marking.{is_marked}
use Rattle.rw_graph.specs.Held.{holds}
use Rattle.rw_graph.specs.Sets.{is_one}
use Rattle.rw_graph.specs.declared.bits.Bits.{Bits}

past_the_end : (words : List ℕ) (index : ℕ) → length words ≤ index → slice_index words index ≡ 0
past_the_end [] index past = refl
past_the_end (word ∷ words) zero past = absurd (omega (arith, past))
past_the_end (word ∷ words) (suc index) past = past_the_end words index (omega (arith, past))

module _ (words : List ℕ) (place : ℕ) (old : Bits) where
  -- the transactions of the first words are found
  abbrev pub LookedUpTo : ℕ → Bits → Type 0
  LookedUpTo index found = (number : ℕ) → number < 1024 → holds found (number + 1) ≡ ((nat_lt number (64 * index) && is_marked words place number) || holds old (number + 1))

  pub looked_none : LookedUpTo 0 old
  looked_none number within = ap (λ b. (b && is_marked words place number) || holds old (number + 1)) (sym (le-ltb number (64 * 0) (omega arith)))

  -- past the words that there are, nothing is marked
  pub looked_all : (count : ℕ) (found : Bits) → LookedUpTo count found → ((number : ℕ) → number < 1024 → 64 * count ≤ number → length words ≤ 1345 * (number / 64))
      → (number : ℕ) → number < 1024 → holds found (number + 1) ≡ (is_marked words place number || holds old (number + 1))
  looked_all count found looked past number within = looked number within ∙ ⊎_elim
      (λ below. ap (λ b. (b && is_marked words place number) || holds old (number + 1)) (lt-ltb number (64 * count) below))
      (λ above.
      let beyond : length words ≤ 1345 * (number / 64) = past number within above in
      let unmarked : is_marked words place number ≡ false =
      ap (λ word. is_one word (number % 64)) (past_the_end words (1345 * (number / 64) + place) (omega (arith, beyond))) ∙ ap (λ bit. nat_eq bit 1) (bit_at-zero (number % 64)) in
      ap (λ b. (b && is_marked words place number) || holds old (number + 1)) (le-ltb number (64 * count) above) ∙ ap (λ b. b || holds old (number + 1)) (sym unmarked))
      (cases_lt number (64 * count))

  more : (index word number : ℕ) → word ≡ slice_index words (1345 * index + place) → (was : Bool) → was ≡ ((nat_lt number (64 * index) && is_marked words place number) || holds old (number + 1))
      → ((nat_eq (number / 64) index && is_one word (number % 64)) || was) ≡ ((nat_lt number (64 * (index + 1)) && is_marked words place number) || holds old (number + 1))
  more index word number is was was_is = ⊎_elim
      (λ same.
      let inside : number / 64 ≡ index = same.1 in
      let low : nat_lt number (64 * index) ≡ false = le-ltb number (64 * index) (omega (arith, inside)) in
      let high : nat_lt number (64 * (index + 1)) ≡ true = lt-ltb number (64 * (index + 1)) (omega (arith, inside)) in
      let own : is_one word (number % 64) ≡ is_marked words place number =
      ap (λ w. is_one w (number % 64)) (is ∙ ap (λ i. slice_index words (1345 * i + place)) (sym inside)) in
      let before : was ≡ holds old (number + 1) = was_is ∙ ap (λ b. (b && is_marked words place number) || holds old (number + 1)) low in
      ap (λ b. (b && is_one word (number % 64)) || was) same.0
      ∙ (λ i. own i || before i)
      ∙ ap (λ b. (b && is_marked words place number) || holds old (number + 1)) (sym high))
      (λ apart.
      let outside : number / 64 ≢ index = apart.1 in
      ap (λ b. (b && is_one word (number % 64)) || was) apart.0 ∙ was_is
      ∙ ap (λ b. (b && is_marked words place number) || holds old (number + 1)) (sym (next outside)))
      (eqb_tells (number / 64) index)
    where
      next : number / 64 ≢ index → nat_lt number (64 * (index + 1)) ≡ nat_lt number (64 * index)
      next outside = ⊎_elim
          (λ below. lt-ltb number (64 * (index + 1)) (omega (arith, below)) ∙ sym (lt-ltb number (64 * index) below))
          (λ above.
          let past : 64 * (index + 1) ≤ number = by_place above in
          le-ltb number (64 * (index + 1)) past ∙ sym (le-ltb number (64 * index) above))
          (cases_lt number (64 * index))
        where
          by_place : 64 * index ≤ number → 64 * (index + 1) ≤ number
          by_place above = ⊎_elim
              (λ inside. absurd (outside (omega (arith, above, inside))))
              (λ past. past)
              (cases_lt number (64 * (index + 1)))

  pub looked_next : (index word : ℕ) (found found' : Bits) → word ≡ slice_index words (1345 * index + place) → LookedUpTo index found
      → ((pos : ℕ) → holds found' pos ≡ ((nat_lt 0 pos && (nat_eq ((pos - 1) / 64) index && is_one word ((pos - 1) % 64))) || holds found pos)) → LookedUpTo (index + 1) found'
  looked_next index word found found' is looked added number within =
      let back : number + 1 - 1 ≡ number = omega arith in
      let counts : nat_lt 0 (number + 1) ≡ true = lt-ltb 0 (number + 1) (omega arith) in
      added (number + 1)
      ∙ ap (λ b. (b && (nat_eq ((number + 1 - 1) / 64) index && is_one word ((number + 1 - 1) % 64))) || holds found (number + 1)) counts
      ∙ ap (λ n. (nat_eq (n / 64) index && is_one word (n % 64)) || holds found (number + 1)) back
      ∙ more index word number is (holds found (number + 1)) (looked number within)

-- ---- item by item

turned : (test was rest : Bool) → ((test || was) || rest) ≡ (was || (test || rest))
turned true true rest = refl
turned true false rest = refl
turned false was rest = refl

module _ {X : Type 0} (test : ℕ → X → Bool) (all : List X) where
  -- what was found, and what is found at the items that are left, is all
  abbrev pub FoundSoFar : Bits → List X → Type 0
  FoundSoFar found left = (number : ℕ) → number < 1024 → (holds found (number + 1) || list_any (test number) left) ≡ list_any (test number) all

  pub found_next : (found found' : Bits) (left after : List X) (item : X) → left ≡ item ∷ after → FoundSoFar found left
      → ((number : ℕ) → number < 1024 → holds found' (number + 1) ≡ (test number item || holds found (number + 1))) → FoundSoFar found' after
  found_next found found' left after item is so_far added number within =
      ap (λ b. b || list_any (test number) after) (added number within)
      ∙ turned (test number item) (holds found (number + 1)) (list_any (test number) after)
      ∙ ap (λ xs. holds found (number + 1) || list_any (test number) xs) (sym is) ∙ so_far number within

-- what is put in first, and what is put in then
pub either_first : (table key was : Bool) → (table || (key || was)) ≡ ((table || key) || was)
either_first true key was = refl
either_first false key was = refl
