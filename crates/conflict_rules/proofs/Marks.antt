-- Marks that are set, and room for more of them.
use Rattle.std.proofs.Common.{inl, inr, ◌⊎◌, ap, false, length, refl, replicate, subst, suc, sym, true, zero, Bool, IfSome, List, None, Option, Some, [], ◌∷◌, ◌++◌, ◌%◌, ◌*◌, ◌+◌, ◌/◌, ◌<◌, ◌∙◌, ◌≡◌, ◌||◌, ℕ, ⊎_elim, slice_get, slice_index, slice_set}
use Rattle.std.specs.Bool.{nat_eq}
use Rattle.std.specs.List.{list_any}
use Rattle.std.proofs.lemmas.Bool.{eq-eqb}
use Rattle.std.proofs.lemmas.Bool.Decides.{eqb_tells}
use Rattle.std.proofs.lemmas.List.{get_or-set_other, get_or-set_same}
use Rattle.std.proofs.lemmas.Option.{none-some, same_Some}
use Rattle.conflict_rules.specs.Marking.{AreReadsMarked, HasMarks, HasReadMarks, has_read_at, has_value_in, is_marked, is_value_marked}
use Rattle.node_model.specs.declared.result.Committed.{Committed}
use Rattle.rw_graph.specs.Sets.{is_one}
use Rattle.rel_base.proofs.Bits.{either, or_left, or_right, or_true}
use Rattle.rel_base.specs.declared.access.Made.{Made}
use Rattle.rel_base.specs.declared.access.Write.{Write}

-- ---- room

zeros : (count i : ℕ) → slice_index (replicate count 0) i ≡ 0
zeros zero i = refl
zeros (suc count) zero = refl
zeros (suc count) (suc i) = zeros count i

pub padded : (words : List ℕ) (count i : ℕ) → slice_index (words ++ replicate count 0) i ≡ slice_index words i
padded [] count i = zeros count i
padded (word ∷ words) count zero = refl
padded (word ∷ words) count (suc i) = padded words count i

-- ---- one mark more

-- marks that are set stay
abbrev pub KeepsMarks : List ℕ → List ℕ → Type 0
KeepsMarks old new = (place number : ℕ) → is_marked old place number ≡ true → is_marked new place number ≡ true

module _ (words : List ℕ) (index word : ℕ) (at : ℕ) (within : index < length words) (is : (other : ℕ) → is_one word other ≡ (nat_eq other at || is_one (slice_index words index) other)) where
  bit_stays : (i other : ℕ) → is_one (slice_index words i) other ≡ true → is_one (slice_index (slice_set words index word) i) other ≡ true
  bit_stays i other one = ⊎_elim
      (λ same.
      let here : is_one (slice_index words index) other ≡ true = subst (λ j. is_one (slice_index words j) other ≡ true) same.1 one in
      subst (λ j. is_one (slice_index (slice_set words index word) j) other ≡ true) (sym same.1)
      (ap (λ w. is_one w other) (get_or-set_same words index word 0 within) ∙ is other ∙ ap (λ b. nat_eq other at || b) here ∙ or_true (nat_eq other at)))
      (λ apart. ap (λ w. is_one w other) (get_or-set_other words index i word 0 apart.1) ∙ one)
      (eqb_tells i index)

  pub mark_kept : KeepsMarks words (slice_set words index word)
  mark_kept place number one = bit_stays (1345 * (number / 64) + place) (number % 64) one

  pub mark_own : (place number : ℕ) → index ≡ 1345 * (number / 64) + place → at ≡ number % 64 → is_marked (slice_set words index word) place number ≡ true
  mark_own place number here bit =
      ap (λ i. is_one (slice_index (slice_set words index word) i) (number % 64)) (sym here)
      ∙ ap (λ w. is_one w (number % 64)) (get_or-set_same words index word 0 within) ∙ is (number % 64)
      ∙ ap (λ b. b || is_one (slice_index words index) (number % 64)) (eq-eqb (number % 64) at (sym bit))

-- ---- the marks of some items

module _ {X : Type 0} (has : X → ℕ → Bool) (all : List X) (number : ℕ) where
  -- each place of an item is marked, or is that of an item that is left
  abbrev pub MarkedSoFar : List ℕ → List X → Type 0
  MarkedSoFar words left = (place : ℕ) → list_any (λ item. has item place) all ≡ true → (is_marked words place number || list_any (λ item. has item place) left) ≡ true

  pub marked_next : (words words' : List ℕ) (left after : List X) (item : X) → left ≡ item ∷ after → MarkedSoFar words left → KeepsMarks words words'
      → ((place : ℕ) → has item place ≡ true → is_marked words' place number ≡ true) → MarkedSoFar words' after
  marked_next words words' left after item is so_far keeps own place some =
      by (is_marked words place number) (has item place) (ap (λ xs. is_marked words place number || list_any (λ x. has x place) xs) (sym is) ∙ so_far place some) (keeps place number) (own place)
    where
      by : (was test : Bool) → (was || (test || list_any (λ x. has x place) after)) ≡ true → (was ≡ true → is_marked words' place number ≡ true) → (test ≡ true → is_marked words' place number ≡ true)
          → (is_marked words' place number || list_any (λ x. has x place) after) ≡ true
      by true test one stays comes = ap (λ b. b || list_any (λ x. has x place) after) (stays refl)
      by false true one stays comes = ap (λ b. b || list_any (λ x. has x place) after) (comes refl)
      by false false one stays comes = ap (λ b. is_marked words' place number || b) one ∙ or_true (is_marked words' place number)

-- ---- one transaction more

pub has_marks_in : (has : Committed → ℕ → Bool) (committed : List Committed) (marked marked' : ℕ → ℕ → Bool) → ((place number : ℕ) → marked place number ≡ true → marked' place number ≡ true)
    → HasMarks has marked committed → HasMarks has marked' committed
has_marks_in has committed marked marked' keeps marks number place done at is = keeps place number (marks number place done at is)

-- values that are marked, or known not to be, stay so
pub values_kept : (words words' : List ℕ) → KeepsMarks words words' → (place number : ℕ) → is_value_marked words place number ≡ true → is_value_marked words' place number ≡ true
values_kept words words' keeps place number marked = ⊎_elim
    (λ own. or_left (is_marked words' place number) (is_marked words' 1344 number) (keeps place number own))
    (λ none. or_right (is_marked words' place number) (is_marked words' 1344 number) (keeps 1344 number none))
    (either (is_marked words place number) (is_marked words 1344 number) marked)

-- the marked column stays once there is one
abbrev pub StaysMarked : Option ℕ → Option ℕ → Type 0
StaysMarked old new = IfSome old (λ column. new ≡ Some column)

pub value_then : (old new : Option ℕ) → StaysMarked old new → (writes : List Write) (place : ℕ) → has_value_in new writes place ≡ true → has_value_in old writes place ≡ true
value_then None new stays writes place has = refl
value_then (Some column) new stays writes place has = subst (λ marked. has_value_in marked writes place ≡ true) stays has

abbrev pub EitherMarks : Option ℕ → List ℕ → ℕ → List Made → Type 0
EitherMarks column words number reads = HasReadMarks None words number reads ⊎ HasReadMarks column words number reads

reads_then : (old new : Option ℕ) → StaysMarked old new → (words words' : List ℕ) → KeepsMarks words words' → (number : ℕ) (reads : List Made) → EitherMarks old words number reads → EitherMarks new words' number reads
reads_then old new stays words words' keeps number reads (inl none) = inl (λ place has. keeps place number (none place has))
reads_then None new stays words words' keeps number reads (inr some) = inl (λ place has. keeps place number (some place has))
reads_then (Some column) new stays words words' keeps number reads (inr some) =
    inr (λ place has. keeps place number (some place (subst (λ marked. has_read_at marked reads place ≡ true) stays has)))

get_more : (committed : List Committed) (last done : Committed) (number : ℕ) → slice_get (committed ++ last ∷ []) number ≡ Some done
    → (slice_get committed number ≡ Some done) ⊎ ((number ≡ length committed) × (last ≡ done))
get_more [] last done zero at = inr (refl, same_Some last done at)
get_more [] last done (suc number) at = absurd (none-some done at)
get_more (first ∷ rest) last done zero at = inl at
get_more (first ∷ rest) last done (suc number) at = ⊎_elim (λ early. inl early) (λ late. inr (ap suc late.0, late.1)) (get_more rest last done number at)

pub has_more : (has : Committed → ℕ → Bool) (committed : List Committed) (last : Committed) (marked : ℕ → ℕ → Bool) → HasMarks has marked committed
    → ((place : ℕ) → has last place ≡ true → marked place (length committed) ≡ true) → HasMarks has marked (committed ++ last ∷ [])
has_more has committed last marked marks own number place done at is = ⊎_elim
    (λ early. marks number place done early is)
    (λ late.
    let same : has last place ≡ true = subst (λ d. has d place ≡ true) (sym late.1) is in
    subst (λ n. marked place n ≡ true) (sym late.0) (own place same))
    (get_more committed last done number at)

pub reads_more : (old new : Option ℕ) → StaysMarked old new → (words words' : List ℕ) → KeepsMarks words words' → (committed : List Committed) (last : Committed)
    → AreReadsMarked old words committed → HasReadMarks new words' (length committed) last.reads → AreReadsMarked new words' (committed ++ last ∷ [])
reads_more old new stays words words' keeps committed last marks own number done at = ⊎_elim
    (λ early. reads_then old new stays words words' keeps number done.reads (marks number done early))
    (λ late. inr (subst (λ d. HasReadMarks new words' number d.reads) late.1 (subst (λ n. HasReadMarks new words' n last.reads) (sym late.0) own)))
    (get_more committed last done number at)
