-- How many numbers of a rising list pass a test, counted from one that passes to the next.
use Rattle.std.proofs.Common.{Bool, List, ap, arith, cond, inl, inr, refl, sym, true, true≢false, false, [], ◌∷◌, ◌+◌, ◌<◌, ◌≤◌, ◌∙◌, ◌≡◌, ◌&&◌, ℕ, ⊎_elim}
use Rattle.std.specs.Bool.{nat_le}
use Rattle.std.specs.List.{count_by}
use Rattle.std.specs.Prelude.{AllPairs}
use Rattle.std.proofs.lemmas.Bool.{cases_lt, le-leb}
use Rattle.std.proofs.lemmas.Bool.Decides.{eqb_tells, leb_tells}
use Rattle.std.proofs.lemmas.List.Sums.{sum_by-cons}
use Rattle.rel_base.proofs.Bits.{and_false}
use Rattle.rw_graph.proofs.Lists.{In, Pairs, each_at, pairs_from}
use Rattle.rw_graph.specs.Sets.{AreAmong, is_among}

pub in_among : (number : ℕ) (list : List ℕ) → is_among list number ≡ true → In number list
in_among number [] is = absurd (true≢false (sym is))
in_among number (x ∷ xs) is = ⊎_elim (λ same. inl (sym same.1)) (λ other. inr (in_among number xs (rw other.0 at is))) (eqb_tells number x)

one_first : (test : ℕ → Bool) (x : ℕ) (xs : List ℕ) → count_by test (x ∷ xs) ≡ cond (test x) 1 0 + count_by test xs
one_first test x xs = sum_by-cons (λ y. cond (test y) 1 0) x xs

-- tests that agree on a list pass as many of it
pub same_count : (test other : ℕ → Bool) (list : List ℕ) → ((x : ℕ) → In x list → test x ≡ other x) → count_by test list ≡ count_by other list
same_count test other [] same = refl
same_count test other (x ∷ xs) same =
    one_first test x xs ∙ ap (λ b. cond b 1 0 + count_by test xs) (same x (inl refl)) ∙ ap (λ n. cond (other x) 1 0 + n) (same_count test other xs (λ y h. same y (inr h)))
    ∙ sym (one_first other x xs)

module _ (test : ℕ → Bool) where
  -- what passes, up to a number
  abbrev pub upto : ℕ → ℕ → Bool
  upto last x = test x && nat_le x last

  above : (last x : ℕ) → last < x → upto last x ≡ false
  above last x high = ap (λ b. test x && b) (⊎_elim (λ le. absurd (omega (arith, high, le.1))) (λ gt. gt.0) (leb_tells x last)) ∙ and_false (test x)

  below : (last x : ℕ) → x ≤ last → upto last x ≡ (test x && true)
  below last x low = ap (λ b. test x && b) (le-leb x last low)

  more : (last next : ℕ) (list : List ℕ) → Pairs (λ p q. p < q) list → In next list → last < next → test next ≡ true → ((x : ℕ) → last < x → x < next → test x ≡ false)
      → count_by (upto next) list ≡ count_by (upto last) list + 1
  more last next [] rises h later passes none = absurd h
  more last next (x ∷ xs) rises (inl same) later passes none =
      let own : upto next x ≡ true = ap (λ b. b && nat_le x next) (ap test same ∙ passes) ∙ le-leb x next (omega (arith, same)) in
      let before : upto last x ≡ false = above last x (omega (arith, same, later)) in
      let with : count_by (upto next) (x ∷ xs) ≡ 1 + count_by (upto next) xs = one_first (upto next) x xs ∙ ap (λ b. cond b 1 0 + count_by (upto next) xs) own in
      let without : count_by (upto last) (x ∷ xs) ≡ 0 + count_by (upto last) xs = one_first (upto last) x xs ∙ ap (λ b. cond b 1 0 + count_by (upto last) xs) before in
      let rest : count_by (upto next) xs ≡ count_by (upto last) xs = same_count (upto next) (upto last) xs (λ y h.
      let high : x < y = each_at (λ q. x < q) xs rises.0 y h in
      above next y (omega (arith, high, same)) ∙ sym (above last y (omega (arith, high, same, later)))) in
      omega (arith, with, without, rest)
  more last next (x ∷ xs) rises (inr h) later passes none =
      let early : x < next = each_at (λ q. x < q) xs rises.0 next h in
      let same : upto next x ≡ upto last x = ⊎_elim
      (λ between. ap (λ b. b && nat_le x next) (none x between early) ∙ sym (above last x between))
      (λ low. below next x (omega (arith, early)) ∙ sym (below last x low))
      (cases_lt last x) in
      let with : count_by (upto next) (x ∷ xs) ≡ cond (upto last x) 1 0 + count_by (upto next) xs = one_first (upto next) x xs ∙ ap (λ b. cond b 1 0 + count_by (upto next) xs) same in
      let without : count_by (upto last) (x ∷ xs) ≡ cond (upto last x) 1 0 + count_by (upto last) xs = one_first (upto last) x xs in
      omega (arith, with, without, more last next xs rises.1 h later passes none)

  -- the next that passes is one more
  pub count_next : (list : List ℕ) → AllPairs (λ p q. p < q) list → AreAmong list test → (last next : ℕ) → last + 1 ≤ next → test next ≡ true
      → ((x : ℕ) → last + 1 ≤ x → x < next → test x ≡ false) → (count : ℕ) → count ≡ count_by (upto last) list → count + 1 ≡ count_by (upto next) list
  count_next list rising among last next later passes none count is =
      let one = more last next list (pairs_from (λ p q. p < q) list rising) (in_among next list (among next passes)) (omega (arith, later)) passes (λ x low high. none x (omega (arith, low)) high) in
      omega (arith, is, one)

  -- where none is left, all are counted
  pub count_all : (list : List ℕ) (last : ℕ) → ((x : ℕ) → last + 1 ≤ x → test x ≡ false) → (count : ℕ) → count ≡ count_by (upto last) list → count ≡ count_by test list
  count_all list last none count is = is ∙ same_count (upto last) test list (λ x h. ⊎_elim
      (λ high. above last x high ∙ sym (none x (omega (arith, high))))
      (λ low. below last x low ∙ and_true (test x))
      (cases_lt last x))
    where
      and_true : (b : Bool) → (b && true) ≡ b
      and_true true = refl
      and_true false = refl

  -- none is counted before the first
  pub count_none : (list : List ℕ) → test 0 ≡ false → 0 ≡ count_by (upto 0) list
  count_none [] fails = refl
  count_none (x ∷ xs) fails =
      let own : upto 0 x ≡ false = ⊎_elim (λ high. above 0 x high) (λ low. let zero : x ≡ 0 = omega (arith, low) in ap (λ b. b && nat_le x 0) (ap test zero ∙ fails)) (cases_lt 0 x) in
      let first : count_by (upto 0) (x ∷ xs) ≡ 0 + count_by (upto 0) xs = one_first (upto 0) x xs ∙ ap (λ b. cond b 1 0 + count_by (upto 0) xs) own in
      omega (arith, first, count_none xs fails)
