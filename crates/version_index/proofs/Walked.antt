-- Walks back along the writes on a key.
use Rattle.std.proofs.Common.{◌≡◌, ◌∙◌, ℕ, suc, drop, ◌&&◌, ◌<◌, ◌≤◌, ◌⊎◌, inl, inr, List, [], ◌∷◌, ◌++◌, Bool, true, false, cond, Option, Some, None, IfSome, refl, ap, sym, subst, arith, length, nat_le, slice_get, take}
use Rattle.std.specs.Option.{IsSomeAnd, option_map}
use Rattle.std.proofs.lemmas.Bool.Decides.{nat_tests}
use Rattle.std.proofs.lemmas.List.{length-map}
use Rattle.std.proofs.lemmas.List.Elements.{All-weaker}
use Rattle.rel_base.specs.Tables.{Stamped}
use Rattle.rel_base.specs.declared.value.Value.{Value}
use Rattle.row_sets.specs.Log.{history_of, stamped_of}
use Rattle.row_sets.specs.declared.entry.LogEntry.{LogEntry}
use Rattle.version_index.specs.Chain.{IsFirst, IsLast, IsLastFrom, is_late, is_on, is_seen}
use Rattle.version_index.specs.Log.{InOrder}
use Rattle.version_index.specs.Numbers.{lesser, passes_at, passing}
use Rattle.version_index.specs.View.{IsBack, history_in, noted_below}
use Rattle.version_index.specs.declared.keyed.Back.{Back}
use Rattle.version_index.specs.declared.view.TableView.{TableView}
use Rattle.version_index.proofs.Firsts.{LateWalk, late_fail, late_pass, late_stop}
use Rattle.version_index.proofs.Lasts.{below_of_get, get_of_part}
use Rattle.version_index.proofs.Logged.{blocks_before, get_history, late_by_upto, late_within, le_from, le_true, not_late}
use Rattle.version_index.proofs.Passing.{IsTop, none_of, top_of}
use Rattle.version_index.proofs.Points.{below_or, drop_fails, fails_take, last_points, take_at, take_past}

-- ---- the lesser of two numbers

pub le_not : (a b : ℕ) → nat_le a b ≡ false → b < a
le_not a b fails = grind (arith, nat_tests)

-- it is one of them
pub lesser_is : (a b : ℕ) → ((lesser a b ≡ a) × (a ≤ b)) ⊎ ((lesser a b ≡ b) × (b < a))
lesser_is a b = elim (nat_le a b) as (λ t. nat_le a b ≡ t → ((cond t a b ≡ a) × (a ≤ b)) ⊎ ((cond t a b ≡ b) × (b < a))) [
  | true ↦ λ down. inl (refl, le_from a b down)
  | false ↦ λ up. inr (refl, le_not a b up)
] refl

pub lesser_high : (a b : ℕ) → b ≤ a → lesser a b ≡ b
lesser_high a b up = go (lesser_is a b)
  where
    go : ((lesser a b ≡ a) × (a ≤ b)) ⊎ ((lesser a b ≡ b) × (b < a)) → lesser a b ≡ b
    go (inl is) = let first = is.0 in let down = is.1 in omega (arith, first, down, up)
    go (inr is) = is.0

pub lesser_low : (a b : ℕ) → a ≤ b → lesser a b ≡ a
lesser_low a b down = ap (λ t. cond t a b) (le_true a b down)

pub lesser_down : (a b : ℕ) → lesser a b ≤ a
lesser_down a b = go (lesser_is a b)
  where
    go : ((lesser a b ≡ a) × (a ≤ b)) ⊎ ((lesser a b ≡ b) × (b < a)) → lesser a b ≤ a
    go (inl is) = let first = is.0 in omega (arith, first)
    go (inr is) = let second = is.0 in let low = is.1 in omega (arith, second, low)

-- below both is below the lesser
pub below_both : (j a b : ℕ) → j < a → j < b → j < lesser a b
below_both j a b one two = go (lesser_is a b)
  where
    go : ((lesser a b ≡ a) × (a ≤ b)) ⊎ ((lesser a b ≡ b) × (b < a)) → j < lesser a b
    go (inl is) = let first = is.0 in omega (arith, first, one)
    go (inr is) = let second = is.0 in omega (arith, second, two)

pub below_second : (j a b : ℕ) → j < lesser a b → j < b
below_second j a b low = go (lesser_is a b)
  where
    go : ((lesser a b ≡ a) × (a ≤ b)) ⊎ ((lesser a b ≡ b) × (b < a)) → j < b
    go (inl is) = let first = is.0 in let down = is.1 in omega (arith, first, down, low)
    go (inr is) = let second = is.0 in omega (arith, second, low)

module _ (view : TableView) (key : List Value) where
  -- whether a write is on the key
  abbrev test : Stamped → Bool
  test = is_on (view.table, key)

  abbrev history : List Stamped
  history = history_in view

  -- ---- the last write on the key below a number

  -- a write in the tail leaves the noted ones as they are
  pub left_in_tail : (left : List ℕ) (end number : ℕ) → left ≡ noted_below view key end → view.noted ≤ number → number < end → left ≡ noted_below view key number
  left_in_tail left end number is up below =
      is ∙ ap (passing (passes_at test history)) (lesser_high end view.noted (omega (arith, up, below)) ∙ sym (lesser_high number view.noted up))

  module _ (left : List ℕ) (end : ℕ) (is : left ≡ noted_below view key end) (none : IsLastFrom (is_on (view.table, key)) view.noted (take end (history_in view)) None) where
    top : (back : Back) → left ≡ back.left.now ++ back.number ∷ [] → IsTop (passes_at test history) (lesser end view.noted) back.number back.left.now
    top back parts = top_of (passes_at test history) (lesser end view.noted) back.number back.left.now (sym is ∙ parts)

    -- the last of them is the last of all
    pub last_at : (number : ℕ) (before : List ℕ) → left ≡ before ++ number ∷ [] → IsLast (is_on (view.table, key)) (take end (history_in view)) (Some number)
    last_at number before parts =
        let is_top = top_of (passes_at test history) (lesser end view.noted) number before (sym is ∙ parts) in
        let down = lesser_down end view.noted in
        let low = is_top.below in
        last_points test (take end history) number (take_at test end history number (omega (arith, down, low)) ∙ is_top.on) (λ j up. either j up (below_or j end) (below_or j view.noted))
      where
        either : (j : ℕ) → number < j → (j < end) ⊎ (end ≤ j) → (j < view.noted) ⊎ (view.noted ≤ j) → passes_at test (take end history) j ≡ false
        either j up (inr past) w = take_past test end history j past
        either j up (inl below) (inl low) =
            take_at test end history j below ∙ (top_of (passes_at test history) (lesser end view.noted) number before (sym is ∙ parts)).none j up (below_both j end view.noted below low)
        either j up (inl below) (inr high) = drop_fails test view.noted (take end history) none j high

    pub back_last : (found : Option Back) → IsBack left found → IsLast (is_on (view.table, key)) (take end (history_in view)) (option_map (λ back. back.number) found)
    back_last None empty = fails_take test end history (λ j below. either j below (below_or j view.noted))
      where
        either : (j : ℕ) → j < end → (j < view.noted) ⊎ (view.noted ≤ j) → passes_at test history j ≡ false
        either j below (inl low) = none_of (passes_at test history) (lesser end view.noted) (sym is ∙ empty) j (below_both j end view.noted below low)
        either j below (inr high) = sym (take_at test end history j below) ∙ drop_fails test view.noted (take end history) none j high
    back_last (Some back) parts = last_at back.number back.left.now parts

    pub back_left : (found : Option Back) → IsBack left found → IfSome found (λ back. back.left.now ≡ noted_below view key back.number)
    back_left None empty = tt
    back_left (Some back) parts =
        let is_top = top back parts in
        let low = below_second back.number end view.noted is_top.below in
        is_top.rest_is ∙ ap (passing (passes_at test history)) (sym (lesser_low back.number view.noted (omega (arith, low))))

-- ---- walks

-- the number of a write that may be there
abbrev pub number_of_back : Option Back → Option ℕ
number_of_back found = option_map (λ back. back.number) found

-- the noted writes on a key before one that may be there
abbrev pub LeftOf : TableView → List Value → Option Back → Type 0
LeftOf view key found = IfSome found (λ back. back.left.now ≡ noted_below view key back.number)

module _ (entries : List LogEntry) (ref : ℕ × List Value) where
  -- an entry of a number that is walked on
  walked_on : (part number : ℕ) (entry : LogEntry) → slice_get entries number ≡ Some entry → IsLast (is_on ref) (take part (history_of entries)) (Some number) → is_on ref (stamped_of entry) ≡ true
  walked_on part number entry there last =
      subst (λ found. IsSomeAnd found (λ s. is_on ref s ≡ true)) (get_of_part (λ s. is_on ref s ≡ true) part number (history_of entries) last.0 ∙ get_history entries number entry there) last.0

  walked_below : (part number : ℕ) → IsLast (is_on ref) (take part (history_of entries)) (Some number) → number < length entries
  walked_below part number last =
      let P : Stamped → Type 0 = λ s. is_on ref s ≡ true in
      let below = below_of_get P number (history_of entries) (subst (λ found. IsSomeAnd found P) (get_of_part P part number (history_of entries) last.0) last.0) in
      let same = length-map entries stamped_of in
      omega (arith, below, same)

  pub last_below : (number : ℕ) → IsLast (is_on ref) (history_of entries) (Some number) → number < length entries
  last_below number last =
      let below = below_of_get (λ s. is_on ref s ≡ true) number (history_of entries) last.0 in
      let same = length-map entries stamped_of in
      omega (arith, below, same)

  -- where the last write on the key is in no block above a height, it is the last of those up to it
  pub last_is_seen : (height number : ℕ) (entry : LogEntry) → slice_get entries number ≡ Some entry → entry.block ≤ height → IsLast (is_on ref) (history_of entries) (Some number) → IsLast (is_seen ref height) (history_of entries) (Some number)
  last_is_seen height number entry there low last =
      let here = get_history entries number entry there in
      let on : is_on ref (stamped_of entry) ≡ true = subst (λ found. IsSomeAnd found (λ s. is_on ref s ≡ true)) here last.0 in
      let seen : is_seen ref height (stamped_of entry) ≡ true = (λ i. on i && le_true entry.block height low i) in (
        subst (λ found. IsSomeAnd found (λ s. is_seen ref height s ≡ true)) (sym here) seen,
        All-weaker (λ s. is_on ref s ≡ false) (λ s. is_seen ref height s ≡ false) (λ s apart. ap (λ b. b && nat_le s.0 height) apart) (drop (suc number) (history_of entries)) last.1,
      )

  module _ (after upto : ℕ) where
    -- a walk along the writes on a key for the first that is late
    abbrev pub KeyWalk : Option ℕ → Option ℕ → Type 0
    KeyWalk place first = LateWalk (is_on ref) (is_late ref after upto) (late_within ref after upto) (history_of entries) place first

    pub key_below : (number : ℕ) (first : Option ℕ) → KeyWalk (Some number) first → number < length entries
    key_below number first walk = walked_below walk.0 number walk.1

    pub key_stop : (number : ℕ) (entry : LogEntry) (first : Option ℕ) → InOrder (history_of entries) → slice_get entries number ≡ Some entry → entry.block ≤ after → KeyWalk (Some number) first
        → IsFirst (is_late ref after upto) (history_of entries) first
    key_stop number entry first ordered there low walk =
        let here = get_history entries number entry there in
        let early : (s : Stamped) → s.0 ≤ entry.block → is_late ref after upto s ≡ false = λ s below. not_late ref after upto s (omega (arith, below, low)) in
        late_stop (is_on ref) (is_late ref after upto) (late_within ref after upto) (history_of entries) number first walk
        (subst (λ found. IsSomeAnd found (λ s. is_late ref after upto s ≡ false)) (sym here) (early (stamped_of entry) (omega arith)))
        (All-weaker (λ s. s.0 ≤ entry.block) (λ s. is_late ref after upto s ≡ false) early (take number (history_of entries)) (blocks_before (history_of entries) number (stamped_of entry) ordered here))

    pub key_back : (number : ℕ) (entry : LogEntry) (earlier first : Option ℕ) → slice_get entries number ≡ Some entry → after < entry.block → IsLast (is_on ref) (take number (history_of entries)) earlier → KeyWalk (Some number) first
        → KeyWalk earlier (cond (nat_le entry.block upto) (Some number) first)
    key_back number entry earlier first there high link walk =
        let here = get_history entries number entry there in
        let is : is_late ref after upto (stamped_of entry) ≡ nat_le entry.block upto = late_by_upto ref after upto (stamped_of entry) (walked_on walk.0 number entry there walk.1) high in
        elim (nat_le entry.block upto) as (λ b. nat_le entry.block upto ≡ b → KeyWalk earlier (cond b (Some number) first)) [
          | true ↦ λ low. late_pass (is_on ref) (is_late ref after upto) (late_within ref after upto) (history_of entries) number first earlier walk
              (subst (λ found. IsSomeAnd found (λ s. is_late ref after upto s ≡ true)) (sym here) (is ∙ low)) link
          | false ↦ λ low. late_fail (is_on ref) (is_late ref after upto) (late_within ref after upto) (history_of entries) number first earlier walk
              (subst (λ found. IsSomeAnd found (λ s. is_late ref after upto s ≡ false)) (sym here) (is ∙ low)) link
        ] refl
