-- The numbers that pass a test, and the row that the last write on a key left.
use Rattle.std.proofs.Common.{◌≡◌, ◌∙◌, ℕ, suc, zero, ◌<◌, ◌≤◌, List, [], ◌∷◌, ◌++◌, Bool, true, false, cond, Contains, Option, Some, None, refl, ap, sym, subst, arith, slice_get, take, drop, get_or, length, ◌⊎◌, inl, inr}
use Rattle.std.specs.Option.{option_and_then}
use Rattle.std.proofs.lemmas.List.{append-nil}
use Rattle.std.proofs.lemmas.List.Elements.{Contains-append_left, Contains-append_right, Contains-push_cases}
use Rattle.rel_base.specs.declared.value.Value.{Value}
use Rattle.rel_base.specs.Tables.{Stamped}
use Rattle.row_sets.proofs.Histories.{unwrapped}
use Rattle.version_index.specs.Chain.{is_on}
use Rattle.version_index.specs.Index.{row_after, row_by}
use Rattle.version_index.specs.Left.{left_at, left_from}
use Rattle.version_index.specs.Numbers.{last_in, passes, passes_at, passing}
use Rattle.version_index.proofs.Points.{below_or}

-- ---- lists with one item more

-- an item that is there
pub there_is : {X : Type 0} (number : ℕ) (xs : List X) → number < length xs → (x : X) × (slice_get xs number ≡ Some x)
there_is number [] within = absurd (omega (arith, within))
there_is zero (x ∷ xs) within = (x, refl)
there_is (suc number) (x ∷ xs) within = there_is number xs (omega (arith, within))

-- the items before the one after a number
pub take_next : {X : Type 0} (xs : List X) (number : ℕ) (x : X) → slice_get xs number ≡ Some x → take (suc number) xs ≡ take number xs ++ x ∷ []
take_next [] number x there = cc
take_next (y ∷ ys) zero x there = ap (λ z. z ∷ []) (unwrapped y x there)
take_next (y ∷ ys) (suc number) x there = ap (λ zs. y ∷ zs) (take_next ys number x there)

-- the last of some numbers with one after them
pub last_end : (numbers : List ℕ) (number : ℕ) → last_in (numbers ++ number ∷ []) ≡ Some number
last_end [] number = refl
last_end (n ∷ []) number = refl
last_end (n ∷ other ∷ rest) number = last_end (other ∷ rest) number

-- ---- the row that was left

left_end : (row : Option (List Value)) (ref : ℕ × List Value) (history : List Stamped) (stamped : Stamped) → left_from row ref (history ++ stamped ∷ []) ≡ cond (is_on ref stamped) stamped.1.write.after (left_from row ref history)
left_end row ref [] stamped = refl
left_end row ref (s ∷ rest) stamped = left_end (cond (is_on ref s) s.1.write.after row) ref rest stamped

-- after one more write
pub left_next : (ref : ℕ × List Value) (history : List Stamped) (number : ℕ) (stamped : Stamped) → slice_get history number ≡ Some stamped
    → left_at ref (take (suc number) history) ≡ cond (is_on ref stamped) stamped.1.write.after (left_at ref (take number history))
left_next ref history number stamped there = ap (left_at ref) (take_next history number stamped there) ∙ left_end None ref (take number history) stamped

-- it is that of the last of the writes on the key
pub left_by_numbers : (ref : ℕ × List Value) (history : List Stamped) (noted : ℕ) → noted ≤ length history → row_by history (passing (passes_at (is_on ref) history) noted) ≡ left_at ref (take noted history)
left_by_numbers ref history zero within = refl
left_by_numbers ref history (suc noted) within =
    let here = there_is noted history (omega (arith, within)) in
    let stamped = here.0 in
    let test = passes_at (is_on ref) history in
    let is : test noted ≡ is_on ref stamped = ap (passes (is_on ref)) here.1 in
    ap (λ b. row_by history (passing test noted ++ cond b (noted ∷ []) [])) is
    ∙ elim (is_on ref stamped) as (λ b. row_by history (passing test noted ++ cond b (noted ∷ []) []) ≡ cond b stamped.1.write.after (left_at ref (take noted history))) [
      | true ↦ ap (λ last. row_after (option_and_then (slice_get history) last)) (last_end (passing test noted) noted) ∙ ap row_after here.1
      | false ↦ ap (row_by history) (append-nil (passing test noted)) ∙ left_by_numbers ref history noted (omega (arith, within))
    ]
    ∙ sym (left_next ref history noted stamped here.1)

-- ---- walks from the last number back

head_same : {X : Type 0} (x y : X) (xs ys : List X) → x ∷ xs ≡ y ∷ ys → x ≡ y
head_same x y xs ys same = ap (λ zs. get_or zs 0 x) same

tail_same : {X : Type 0} (x y : X) (xs ys : List X) → x ∷ xs ≡ y ∷ ys → xs ≡ ys
tail_same x y xs ys same = ap (drop 1) same

pub not_empty : {X : Type 0} (xs : List X) (x : X) → xs ++ x ∷ [] ≡ [] → ⊥
not_empty [] x same = absurd (omega (arith, ap length same))
not_empty (y ∷ xs) x same = absurd (omega (arith, ap length same))

snoc_parts : {X : Type 0} (xs ys : List X) (x y : X) → xs ++ x ∷ [] ≡ ys ++ y ∷ [] → (xs ≡ ys) × (x ≡ y)
snoc_parts [] [] x y same = (refl, head_same x y [] [] same)
snoc_parts [] (z ∷ []) x y same = cc
snoc_parts [] (z ∷ w ∷ ys) x y same = cc
snoc_parts (z ∷ []) [] x y same = cc
snoc_parts (z ∷ w ∷ xs) [] x y same = cc
snoc_parts (z ∷ xs) (w ∷ ys) x y same =
    let rest = snoc_parts xs ys x y (tail_same z w (xs ++ x ∷ []) (ys ++ y ∷ []) same) in
    ((λ i. head_same z w (xs ++ x ∷ []) (ys ++ y ∷ []) same i ∷ rest.0 i), rest.1)

module _ (test : ℕ → Bool) where
  -- the last of the numbers below a number that pass: those before it are those below it, and none between passes
  pub record IsTop (end last : ℕ) (rest : List ℕ) : Type 0 where
    pub below : last < end
    pub on : test last ≡ true
    pub rest_is : rest ≡ passing test last
    pub none : (j : ℕ) → last < j → j < end → test j ≡ false

  pub top_of : (end last : ℕ) (rest : List ℕ) → passing test end ≡ rest ++ last ∷ [] → IsTop end last rest
  top_of zero last [] is = cc
  top_of zero last (n ∷ rest) is = cc
  top_of (suc end) last rest is = go (λ same. top_of end last rest same) (test end) refl is
    where
      go : (passing test end ≡ rest ++ last ∷ [] → IsTop end last rest) → (b : Bool) → test end ≡ b → passing test end ++ cond b (end ∷ []) [] ≡ rest ++ last ∷ [] → IsTop (suc end) last rest
      go before true passes_it same =
          let parts = snoc_parts (passing test end) rest end last same in
          subst (λ n. IsTop (suc end) n rest) parts.1
          (record { below = omega arith; on = passes_it; rest_is = sym parts.0; none = λ j up down. absurd (omega (arith, up, down)) })
      go before false fails same =
          let top = before (sym (append-nil (passing test end)) ∙ same) in
          let below = top.below in
          record { below = omega (arith, below); on = top.on; rest_is = top.rest_is; none = λ j up down. between top j up down (below_or j end) }
        where
          between : IsTop end last rest → (j : ℕ) → last < j → j < suc end → (j < end) ⊎ (end ≤ j) → test j ≡ false
          between top j up down (inl low) = top.none j up low
          between top j up down (inr high) = let same_number : j ≡ end = omega (arith, down, high) in ap test same_number ∙ fails

  -- they are those that pass
  pub passing_has : (end j : ℕ) → Contains (passing test end) j → (j < end) × (test j ≡ true)
  passing_has zero j inside = let below = inside.1 in absurd (omega (arith, below))
  passing_has (suc end) j inside = go (passing_has end j) (test end) refl inside
    where
      go : (Contains (passing test end) j → (j < end) × (test j ≡ true)) → (b : Bool) → test end ≡ b → Contains (passing test end ++ cond b (end ∷ []) []) j → (j < suc end) × (test j ≡ true)
      go before true passes_it inside = either (Contains-push_cases (passing test end) end j inside)
        where
          either : Contains (passing test end) j ⊎ (end ≡ j) → (j < suc end) × (test j ≡ true)
          either (inl within) = let low = (before within).0 in (omega (arith, low), (before within).1)
          either (inr same) = (omega (arith, same), ap test (sym same) ∙ passes_it)
      go before false fails inside =
          let rest = before (subst (λ xs. Contains xs j) (append-nil (passing test end)) inside) in
          let low = rest.0 in
          (omega (arith, low), rest.1)

  pub passing_all : (end j : ℕ) → j < end → test j ≡ true → Contains (passing test end) j
  passing_all zero j below is = absurd (omega (arith, below))
  passing_all (suc end) j below is = go (passing_all end j) (below_or j end)
    where
      go : (j < end → test j ≡ true → Contains (passing test end) j) → (j < end) ⊎ (end ≤ j) → Contains (passing test end ++ cond (test end) (end ∷ []) []) j
      go before (inl low) = Contains-append_left (passing test end) (cond (test end) (end ∷ []) []) j (before low is)
      go before (inr high) =
          let same : end ≡ j = omega (arith, below, high) in
          Contains-append_right (passing test end) (cond (test end) (end ∷ []) []) j (subst (λ b. Contains (cond b (end ∷ []) []) j) (sym (ap test same ∙ is)) (0, omega arith, same))

  -- where there is none, none passes
  pub none_of : (end : ℕ) → passing test end ≡ [] → (j : ℕ) → j < end → test j ≡ false
  none_of zero is j below = absurd (omega (arith, below))
  none_of (suc end) is j below = go (λ same low. none_of end same j low) (test end) refl is
    where
      go : (passing test end ≡ [] → j < end → test j ≡ false) → (b : Bool) → test end ≡ b → passing test end ++ cond b (end ∷ []) [] ≡ [] → test j ≡ false
      go before true passes_it same = absurd (not_empty (passing test end) end same)
      go before false fails same = either (below_or j end)
        where
          either : (j < end) ⊎ (end ≤ j) → test j ≡ false
          either (inl low) = before (sym (append-nil (passing test end)) ∙ same) low
          either (inr high) = let same_number : j ≡ end = omega (arith, below, high) in ap test same_number ∙ fails

-- where two tests agree below a number, the same numbers pass
pub passing_alike : (f g : ℕ → Bool) (end : ℕ) → ((j : ℕ) → j < end → f j ≡ g j) → passing f end ≡ passing g end
passing_alike f g zero alike = refl
passing_alike f g (suc end) alike = (λ i. passing_alike f g end (λ j below. alike j (omega (arith, below))) i ++ cond (alike end (omega arith) i) (end ∷ []) [])
