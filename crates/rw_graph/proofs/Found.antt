-- What is found first in a list of numbers.
use Rattle.std.proofs.Common.{arith, ap, Bool, cond, List, None, Option, Some, refl, sym, true, true≢false, false, suc, [], ◌∷◌, ◌<◌, ◌∙◌, ◌≡◌, ◌||◌, ℕ, ⊎_elim}
use Rattle.std.specs.Bool.{nat_eq}
use Rattle.std.specs.List.{AllByRecursion, list_any}
use Rattle.std.specs.Option.{option_map}
use Rattle.std.specs.Prelude.{AllPairs, find}
use Rattle.std.proofs.lemmas.Bool.{eq-eqb}
use Rattle.std.proofs.lemmas.Bool.Decides.{eqb_tells}
use Rattle.std.proofs.lemmas.List.Elements.{recursion_from_All}
use Rattle.node_model.specs.Danger.{with_partner}
use Rattle.rw_graph.specs.Sets.{is_among}
use Rattle.rel_base.proofs.Bits.{or_true}

head_among : (x : ℕ) (xs : List ℕ) → is_among (x ∷ xs) x ≡ true
head_among x xs = ap (λ b. b || is_among xs x) (eq-eqb x x refl)

tail_among : (x : ℕ) (xs : List ℕ) (other : ℕ) → is_among xs other ≡ true → is_among (x ∷ xs) other ≡ true
tail_among x xs other is = ap (λ b. nat_eq other x || b) is ∙ or_true (nat_eq other x)

module _ (test : ℕ → Bool) where
  pub find_none : (list : List ℕ) → ((other : ℕ) → is_among list other ≡ true → test other ≡ false) → find test list ≡ None
  find_none [] none = refl
  find_none (x ∷ xs) none =
      ap (λ b. cond b (Some x) (find test xs)) (none x (head_among x xs)) ∙ find_none xs (λ other is. none other (tail_among x xs other is))

  pub any_none : (list : List ℕ) → ((other : ℕ) → is_among list other ≡ true → test other ≡ false) → list_any test list ≡ false
  any_none [] none = refl
  any_none (x ∷ xs) none =
      ap (λ b. b || list_any test xs) (none x (head_among x xs)) ∙ any_none xs (λ other is. none other (tail_among x xs other is))

  pub any_some : (list : List ℕ) (one : ℕ) → is_among list one ≡ true → test one ≡ true → list_any test list ≡ true
  any_some [] one among is = among
  any_some (x ∷ xs) one among is = ⊎_elim
      (λ same. ap (λ b. b || list_any test xs) (ap test (sym same.1) ∙ is))
      (λ other. ap (λ b. test x || b) (any_some xs one (rw other.0 at among) is) ∙ or_true (test x))
      (eqb_tells one x)

  -- in a list that rises, the least that passes is the first
  abbrev Rises : List ℕ → Type 0
  Rises [] = Unit {0}
  Rises (x ∷ xs) = AllByRecursion (λ other. x < other) xs × Rises xs

  above_all : (bound one : ℕ) (list : List ℕ) → AllByRecursion (λ other. bound < other) list → is_among list one ≡ true → bound < one
  above_all bound one [] all among = absurd (true≢false (sym among))
  above_all bound one (x ∷ xs) all among = ⊎_elim (λ same. omega (arith, all.0, same.1)) (λ other. above_all bound one xs all.1 (rw other.0 at among)) (eqb_tells one x)

  rises_from : (list : List ℕ) → AllPairs (λ p q. p < q) list → Rises list
  rises_from [] pairs = tt
  rises_from (x ∷ xs) pairs = (
    recursion_from_All (λ other. x < other) xs (λ k d within. pairs 0 (suc k) d (omega arith) (omega (arith, within))),
    rises_from xs (λ i j d before within. pairs (suc i) (suc j) d (omega (arith, before)) (omega (arith, within))),
  )

  find_rising : (list : List ℕ) → Rises list → (least : ℕ) → is_among list least ≡ true → test least ≡ true → ((other : ℕ) → other < least → test other ≡ false) → find test list ≡ Some least
  find_rising [] rises least among is none = absurd (true≢false (sym among))
  find_rising (x ∷ xs) rises least among is none = ⊎_elim
      (λ same. ap (λ b. cond b (Some x) (find test xs)) (ap test (sym same.1) ∙ is) ∙ ap Some (sym same.1))
      (λ other. ap (λ b. cond b (Some x) (find test xs)) (none x (above_all x least xs rises.0 (rw other.0 at among))) ∙ find_rising xs rises.1 least (rw other.0 at among) is none)
      (eqb_tells least x)

  pub find_least : (list : List ℕ) → AllPairs (λ p q. p < q) list → (least : ℕ) → is_among list least ≡ true → test least ≡ true → ((other : ℕ) → other < least → test other ≡ false) → find test list ≡ Some least
  find_least list rising = find_rising list (rises_from list rising)

module _ {M : Type 0} (related : M → M → Bool) (members : List M) where
  abbrev is_found : Option M → Bool
  is_found None = false
  is_found (Some x) = true

  any_by_find : (test : M → Bool) (list : List M) (found : Option M) → find test list ≡ found → list_any test list ≡ is_found found
  any_by_find test [] found is = ap is_found is
  any_by_find test (x ∷ xs) found is = by_test (test x) refl (any_by_find test xs)
    where
      by_test : (b : Bool) → test x ≡ b → ((found : Option M) → find test xs ≡ found → list_any test xs ≡ is_found found) → list_any test (x ∷ xs) ≡ is_found found
      by_test true passes rest = ap (λ b. b || list_any test xs) passes ∙ ap is_found (sym (ap (λ b. cond b (Some x) (find test xs)) passes) ∙ is)
      by_test false fails rest = ap (λ b. b || list_any test xs) fails ∙ rest found (sym (ap (λ b. cond b (Some x) (find test xs)) fails) ∙ is)

  pub none_by_find : (test : M → Bool) (list : List M) → find test list ≡ None → list_any test list ≡ false
  none_by_find test list none = any_by_find test list None none

  pub some_by_find : (test : M → Bool) (list : List M) (x : M) → find test list ≡ Some x → list_any test list ≡ true
  some_by_find test list x some = any_by_find test list (Some x) some

  -- a member with no partner is passed over, and the first with one is the answer
  pub partner_none : (first : M) (rest : List M) → find (related first) members ≡ None
      → with_partner related members (find (λ x. list_any (related x) members) (first ∷ rest)) ≡ with_partner related members (find (λ x. list_any (related x) members) rest)
  partner_none first rest none =
      ap (λ b. with_partner related members (cond b (Some first) (find (λ x. list_any (related x) members) rest))) (any_by_find (related first) members None none)

  pub partner_some : (first second : M) (rest : List M) → find (related first) members ≡ Some second
      → with_partner related members (find (λ x. list_any (related x) members) (first ∷ rest)) ≡ Some (first, second)
  partner_some first second rest some =
      ap (λ b. with_partner related members (cond b (Some first) (find (λ x. list_any (related x) members) rest))) (any_by_find (related first) members (Some second) some)
      ∙ ap (option_map (λ y. (first, y))) some
