-- The writes on a key that are in no block above a height, among the numbers of those that are noted.
use Rattle.std.proofs.Common.{◌≡◌, ◌∙◌, ℕ, suc, zero, ◌+◌, ◌<◌, ◌≤◌, ◌⊎◌, inl, inr, List, [], ◌∷◌, ◌++◌, Bool, true, false, ◌&&◌, cond, Option, Some, None, refl, ap, sym, subst, arith, All, slice_get, take, length, nat_le}
use Rattle.std.specs.List.{filter}
use Rattle.std.proofs.lemmas.Bool.Decides.{Decides-eqb, nat_tests}
use Rattle.std.proofs.lemmas.List.{append-nil, length-append, length-take, take_all}
use Rattle.std.proofs.lemmas.List.Elements.{All-append, All-cons, All-contains, All-nil, filter-append}
use Rattle.rel_base.specs.declared.value.Value.{Value}
use Rattle.rel_base.specs.Tables.{Stamped}
use Rattle.row_sets.specs.Lifespans.{is_of_table}
use Rattle.version_index.specs.Chain.{IsLast, IsLastFrom, is_on, is_seen}
use Rattle.version_index.specs.Found.{count_on, is_low}
use Rattle.version_index.specs.Log.{InOrder, Precedes}
use Rattle.version_index.specs.Numbers.{passes, passes_at, passing}
use Rattle.row_sets.specs.Log.{history_of}
use Rattle.row_sets.specs.declared.entry.LogEntry.{LogEntry}
use Rattle.version_index.proofs.Logged.{contains_got, get_history, same_ref}
use Rattle.version_index.proofs.Passing.{IsTop, none_of, take_next, there_is, top_of}
use Rattle.version_index.proofs.Points.{all_fails, at_below, below_or, drop_fails, fails_all, last_points, past_end, points_last, take_at, take_below, take_past}

-- ---- lists with one item more

module _ {X : Type 0} (test : X → Bool) where
  front_at : (xs ys : List X) (i : ℕ) → i < length xs → passes_at test (xs ++ ys) i ≡ passes_at test xs i
  front_at [] ys i below = absurd (omega (arith, below))
  front_at (x ∷ xs) ys zero below = refl
  front_at (x ∷ xs) ys (suc i) below = front_at xs ys i (omega (arith, below))

  end_at : (xs : List X) (x : X) → passes_at test (xs ++ x ∷ []) (length xs) ≡ test x
  end_at [] x = refl
  end_at (y ∷ xs) x = end_at xs x

take_front : {X : Type 0} (count : ℕ) (xs ys : List X) → count ≤ length xs → take count (xs ++ ys) ≡ take count xs
take_front zero xs ys few = refl
take_front (suc count) [] ys few = absurd (omega (arith, few))
take_front (suc count) (x ∷ xs) ys few = ap (λ zs. x ∷ zs) (take_front count xs ys (omega (arith, few)))

take_none : (count : ℕ) (xs : List ℕ) → xs ≡ [] → take count xs ≡ []
take_none zero xs is = refl
take_none (suc count) [] is = refl
take_none (suc count) (x ∷ xs) is = cc

-- ---- the numbers that pass one test, and are low by another

module _ (test low : ℕ → Bool) where
  -- the first of them, as many as a count says, are those below a number, and from there on none that passes is low
  pub record IsParted (end count : ℕ) : Type 0 where
    pub edge : ℕ
    pub within : edge ≤ end
    pub front : take count (passing test end) ≡ passing test edge
    pub high : (j : ℕ) → edge ≤ j → j < end → test j ≡ true → low j ≡ false

  pub parted : (end count : ℕ) → ((i : ℕ) → count ≤ i → passes_at low (passing test end) i ≡ false) → IsParted end count
  parted zero count none = record { edge = 0; within = omega arith; front = take_none count [] refl; high = λ j up down is. absurd (omega (arith, down)) }
  parted (suc end) count none = go (parted end count) (test end) refl none
    where
      ys : List ℕ
      ys = passing test end

      go : (((i : ℕ) → count ≤ i → passes_at low ys i ≡ false) → IsParted end count) → (b : Bool) → test end ≡ b → ((i : ℕ) → count ≤ i → passes_at low (ys ++ cond b (end ∷ []) []) i ≡ false) → IsParted (suc end) count
      go before false fails high =
          let part = before (λ i up. ap (λ zs. passes_at low zs i) (sym (append-nil ys)) ∙ high i up) in
          let within = part.within in
          record {
            edge = part.edge;
            within = omega (arith, within);
            front = ap (λ b. take count (ys ++ cond b (end ∷ []) [])) fails ∙ ap (take count) (append-nil ys) ∙ part.front;
            high = λ j up down is. between part j up down is (below_or j end);
          }
        where
          between : (part : IsParted end count) (j : ℕ) → part.edge ≤ j → j < suc end → test j ≡ true → (j < end) ⊎ (end ≤ j) → low j ≡ false
          between part j up down is (inl below) = part.high j up below is
          between part j up down is (inr past) = let same : j ≡ end = omega (arith, down, past) in (let on_it : false ≡ true = sym fails ∙ ap test (sym same) ∙ is in cc)
      go before true passes_it high = either (below_or (length ys) count)
        where
          whole : length (ys ++ end ∷ []) ≡ length ys + 1
          whole = length-append ys (end ∷ [])

          either : (length ys < count) ⊎ (count ≤ length ys) → IsParted (suc end) count
          either (inl all) =
              record {
                edge = suc end;
                within = omega arith;
                front = take_all count (passing test (suc end)) (subst (λ b. length (ys ++ cond b (end ∷ []) []) ≤ count) (sym passes_it) (let same = whole in omega (arith, same, all)));
                high = λ j up down is. absurd (omega (arith, up, down));
              }
          either (inr few) =
              let part = before (λ i up. shorter i up (below_or i (length ys))) in
              let within = part.within in
              record {
                edge = part.edge;
                within = omega (arith, within);
                front = ap (λ b. take count (ys ++ cond b (end ∷ []) [])) passes_it ∙ take_front count ys (end ∷ []) few ∙ part.front;
                high = λ j up down is. between part j up down is (below_or j end);
              }
            where
              shorter : (i : ℕ) → count ≤ i → (i < length ys) ⊎ (length ys ≤ i) → passes_at low ys i ≡ false
              shorter i up (inl below) = sym (front_at low ys (end ∷ []) i below) ∙ high i up
              shorter i up (inr past) = past_end low ys i past

              between : (part : IsParted end count) (j : ℕ) → part.edge ≤ j → j < suc end → test j ≡ true → (j < end) ⊎ (end ≤ j) → low j ≡ false
              between part j up down is (inl below) = part.high j up below is
              between part j up down is (inr past) = let same : j ≡ end = omega (arith, down, past) in ap low same ∙ sym (end_at low ys end) ∙ high (length ys) few

  -- where what is low stays so before it, it is so among those that pass
  all_low : (end : ℕ) → ((m : ℕ) → m < end → low m ≡ true) → (i : ℕ) → i < length (passing test end) → passes_at low (passing test end) i ≡ true
  all_low zero lows i below = absurd (omega (arith, below))
  all_low (suc end) lows i below = go (all_low end (λ m small. lows m (omega (arith, small))) i) (test end) below
    where
      ys : List ℕ
      ys = passing test end

      go : (i < length ys → passes_at low ys i ≡ true) → (b : Bool) → i < length (ys ++ cond b (end ∷ []) []) → passes_at low (ys ++ cond b (end ∷ []) []) i ≡ true
      go before false few = ap (λ zs. passes_at low zs i) (append-nil ys) ∙ before (subst (λ zs. i < length zs) (append-nil ys) few)
      go before true few = either (below_or i (length ys))
        where
          whole : length (ys ++ end ∷ []) ≡ length ys + 1
          whole = length-append ys (end ∷ [])

          either : (i < length ys) ⊎ (length ys ≤ i) → passes_at low (ys ++ end ∷ []) i ≡ true
          either (inl small) = front_at low ys (end ∷ []) i small ∙ before small
          either (inr past) =
              let size = whole in
              let same : i ≡ length ys = omega (arith, past, few, size) in
              ap (passes_at low (ys ++ end ∷ [])) same ∙ end_at low ys end ∙ lows end (omega arith)

  pub falls : ((a b : ℕ) → a ≤ b → low b ≡ true → low a ≡ true) → (end i j : ℕ) → i ≤ j → passes_at low (passing test end) j ≡ true → passes_at low (passing test end) i ≡ true
  falls antitone zero i j up is = cc
  falls antitone (suc end) i j up is = go (falls antitone end i j up) (test end) is
    where
      ys : List ℕ
      ys = passing test end

      go : (passes_at low ys j ≡ true → passes_at low ys i ≡ true) → (b : Bool) → passes_at low (ys ++ cond b (end ∷ []) []) j ≡ true → passes_at low (ys ++ cond b (end ∷ []) []) i ≡ true
      go before false at_j = ap (λ zs. passes_at low zs i) (append-nil ys) ∙ before (ap (λ zs. passes_at low zs j) (sym (append-nil ys)) ∙ at_j)
      go before true at_j = either (below_or j (length ys)) (below_or i (length ys))
        where
          whole : length (ys ++ end ∷ []) ≡ length ys + 1
          whole = length-append ys (end ∷ [])

          last : length ys ≤ j → j ≡ length ys
          last past = let size = whole in let few = at_below low (ys ++ end ∷ []) j at_j in omega (arith, past, few, size)

          end_low : length ys ≤ j → low end ≡ true
          end_low past = sym (end_at low ys end) ∙ ap (passes_at low (ys ++ end ∷ [])) (sym (last past)) ∙ at_j

          either : (j < length ys) ⊎ (length ys ≤ j) → (i < length ys) ⊎ (length ys ≤ i) → passes_at low (ys ++ end ∷ []) i ≡ true
          either (inl below) (inl small) = front_at low ys (end ∷ []) i small ∙ before (sym (front_at low ys (end ∷ []) j below) ∙ at_j)
          either (inl below) (inr large) = absurd (omega (arith, up, below, large))
          either (inr past) (inl small) = front_at low ys (end ∷ []) i small ∙ all_low end (λ m less. antitone m end (omega (arith, less)) (end_low past)) i small
          either (inr past) (inr large) = let same = last past in let one : i ≡ j = omega (arith, up, large, same) in ap (passes_at low (ys ++ end ∷ [])) one ∙ at_j

-- the numbers that pass are below the end
pub passing_below : (test : ℕ → Bool) (end bound : ℕ) → end ≤ bound → All (λ number. number < bound) (passing test end)
passing_below test zero bound within = All-nil (λ (n : ℕ). n < bound)
passing_below test (suc end) bound within =
    All-append (λ (n : ℕ). n < bound) (passing test end) (cond (test end) (end ∷ []) []) (passing_below test end bound (omega (arith, within)))
    (elim (test end) as (λ b. All (λ (n : ℕ). n < bound) (cond b (end ∷ []) [])) [
      | true ↦ All-cons (λ (n : ℕ). n < bound) end [] (omega (arith, within)) (All-nil (λ (n : ℕ). n < bound))
      | false ↦ All-nil (λ (n : ℕ). n < bound)
    ])

-- ---- how many there are

module _ {X : Type 0} (f g : X → Bool) (within : (x : X) → f x ≡ true → g x ≡ true) where
  few_first : (xs : List X) (n : ℕ) → length (filter g (take n xs)) ≤ length (filter g xs)
  few_first xs zero = omega arith
  few_first [] (suc n) = omega arith
  few_first (x ∷ xs) (suc n) =
      let rest = few_first xs n in
      elim (g x) as (λ b. length (cond b (x ∷ filter g (take n xs)) (filter g (take n xs))) ≤ length (cond b (x ∷ filter g xs) (filter g xs))) [ true ↦ omega (arith, rest) | false ↦ rest ]

  few_passing : (xs : List X) (end : ℕ) → length (passing (passes_at f xs) end) ≤ length (filter g (take end xs))
  few_passing xs zero = omega arith
  few_passing xs (suc end) = either (few_passing xs end) (below_or end (length xs))
    where
      ys : List ℕ
      ys = passing (passes_at f xs) end

      one : length ys ≤ length (filter g (take end xs)) → (b c : Bool) (x : X) → (b ≡ true → c ≡ true) → length (ys ++ cond b (end ∷ []) []) ≤ length (filter g (take end xs) ++ cond c (x ∷ []) [])
      one few true true x then =
          let low = few in let left = length-append ys (end ∷ []) in let right = length-append (filter g (take end xs)) (x ∷ []) in omega (arith, low, left, right)
      one few true false x then = let wrong = then refl in cc
      one few false c x then =
          let low = few in let left = length-append ys [] in let right = length-append (filter g (take end xs)) (cond c (x ∷ []) []) in omega (arith, low, left, right)

      either : length ys ≤ length (filter g (take end xs)) → (end < length xs) ⊎ (length xs ≤ end) → length (passing (passes_at f xs) (suc end)) ≤ length (filter g (take (suc end) xs))
      either few (inl below) =
          let here = there_is end xs below in
          let x = here.0 in
          subst (λ zs. length (passing (passes_at f xs) (suc end)) ≤ length (filter g zs)) (sym (take_next xs end x here.1))
          (subst (λ zs. length (passing (passes_at f xs) (suc end)) ≤ length zs) (sym (filter-append g (take end xs) (x ∷ [])))
          (one few (passes_at f xs end) (g x) x (λ is. within x (ap (passes f) (sym here.1) ∙ is))))
      either few (inr past) =
          let all : take (suc end) xs ≡ xs = take_all (suc end) xs (omega (arith, past)) in
          let same : take end xs ≡ xs = take_all end xs past in
          let none = past_end f xs end past in
          subst (λ zs. length (passing (passes_at f xs) (suc end)) ≤ length (filter g zs)) (same ∙ sym all)
          (subst (λ b. length (ys ++ cond b (end ∷ []) []) ≤ length (filter g (take end xs))) (sym none) (subst (λ zs. length zs ≤ length (filter g (take end xs))) (sym (append-nil ys)) few))

  pub few_of : (xs : List X) (end : ℕ) → length (passing (passes_at f xs) end) ≤ length (filter g xs)
  few_of xs end = let one = few_passing xs end in let other = few_first xs end in omega (arith, one, other)

-- the noted writes on a key are no more than those on its table
pub few_on : (ref : ℕ × List Value) (history : List Stamped) (end : ℕ) → length (passing (passes_at (is_on ref) history) end) ≤ count_on ref.0 history
few_on ref history end =
    few_of (is_on ref) (is_of_table ref.0) (λ s on. (Decides-eqb s.1.write.table ref.0).1 (ap (λ (r : ℕ × List Value). r.0) (same_ref ref s on))) history end

-- ---- writes in order

-- where a write is in no block above a height, none before it is
pub low_before : (history : List Stamped) (height : ℕ) → InOrder history → (a b : ℕ) → a ≤ b → is_low history height b ≡ true → is_low history height a ≡ true
low_before [] height ordered a b up is = cc
low_before (s ∷ rest) height ordered zero zero up is = is
low_before (s ∷ rest) height ordered (suc a) zero up is = absurd (omega (arith, up))
low_before (s ∷ rest) height ordered (suc a) (suc b) up is = low_before rest height ordered.1 a b (omega (arith, up)) is
low_before (s ∷ rest) height ordered zero (suc b) up is =
    let test : Stamped → Bool = λ x. nat_le x.0 height in
    let here = there_is b rest (at_below test rest b is) in
    let x = here.0 in
    let before = (All-contains (Precedes s) rest x ordered.0 (contains_got rest b x here.1)).0 in
    let low : nat_le x.0 height ≡ true = ap (passes test) (sym here.1) ∙ is in
    grind (arith, nat_tests)

-- ---- the last that is seen

module _ (ref : ℕ × List Value) (height : ℕ) (history : List Stamped) (noted : ℕ) where
  abbrev on : ℕ → Bool
  on = passes_at (is_on ref) history

  seen_is : (number : ℕ) → passes_at (is_seen ref height) history number ≡ (on number && is_low history height number)
  seen_is number = elim (slice_get history number) as (λ found. passes (is_seen ref height) found ≡ (passes (is_on ref) found && passes (λ (s : Stamped). nat_le s.0 height) found)) [ None ↦ refl | Some s ↦ refl ]

  off : (number : ℕ) → on number ≡ false → passes_at (is_seen ref height) history number ≡ false
  off number fails = seen_is number ∙ ap (λ b. b && is_low history height number) fails

  high_off : (number : ℕ) → (on number ≡ true → is_low history height number ≡ false) → passes_at (is_seen ref height) history number ≡ false
  high_off number high = seen_is number ∙ go (on number) high
    where
      go : (b : Bool) → (b ≡ true → is_low history height number ≡ false) → (b && is_low history height number) ≡ false
      go true fails = fails refl
      go false fails = refl

  module _ (numbers : List ℕ) (count : ℕ) (are : numbers ≡ passing (passes_at (is_on ref) history) noted)
      (lows : (i : ℕ) → i < count → passes_at (is_low history height) numbers i ≡ true) (highs : (i : ℕ) → count ≤ i → passes_at (is_low history height) numbers i ≡ false) where
    abbrev low : ℕ → Bool
    low = is_low history height

    part : IsParted on low noted count
    part = parted on low noted count (subst (λ xs. (i : ℕ) → count ≤ i → passes_at low xs i ≡ false) are highs)

    front : take count numbers ≡ passing on part.edge
    front = ap (take count) are ∙ part.front

    behind : (j : ℕ) → part.edge ≤ j → passes_at (is_seen ref height) (take noted history) j ≡ false
    behind j up = either (below_or j noted)
      where
        either : (j < noted) ⊎ (noted ≤ j) → passes_at (is_seen ref height) (take noted history) j ≡ false
        either (inl below) = take_at (is_seen ref height) noted history j below ∙ high_off j (part.high j up below)
        either (inr past) = take_past (is_seen ref height) noted history j past

    -- where none of those that are low is there, none is seen
    pub none_by_count : take count numbers ≡ [] → IsLast (is_seen ref height) (take noted history) None
    none_by_count none = fails_all (is_seen ref height) (take noted history) (λ j. either j (below_or j part.edge))
      where
        either : (j : ℕ) → (j < part.edge) ⊎ (part.edge ≤ j) → passes_at (is_seen ref height) (take noted history) j ≡ false
        either j (inl below) =
            let within = part.within in
            take_at (is_seen ref height) noted history j (omega (arith, below, within)) ∙ off j (none_of on part.edge (sym front ∙ none) j below)
        either j (inr up) = behind j up

    -- the last of those that are low is the last that is seen
    pub last_by_count : (number : ℕ) (rest : List ℕ) → take count numbers ≡ rest ++ number ∷ [] → IsLast (is_seen ref height) (take noted history) (Some number)
    last_by_count number rest is = last_points (is_seen ref height) (take noted history) number seen (λ j up. either j up (below_or j part.edge))
      where
        top : IsTop on part.edge number rest
        top = top_of on part.edge number rest (sym front ∙ is)

        within : number < noted
        within = let one = top.below in let other = part.within in omega (arith, one, other)

        few : length rest < count
        few =
            let one = ap length is in
            let two = length-append rest (number ∷ []) in
            let three = length-take count numbers in
            omega (arith, one, two, three)

        is_low_it : low number ≡ true
        is_low_it =
            sym (end_at low rest number) ∙ ap (λ xs. passes_at low xs (length rest)) (sym is) ∙ take_at low count numbers (length rest) few ∙ lows (length rest) few

        seen : passes_at (is_seen ref height) (take noted history) number ≡ true
        seen = take_at (is_seen ref height) noted history number within ∙ seen_is number ∙ ap (λ b. b && low number) top.on ∙ is_low_it

        either : (j : ℕ) → number < j → (j < part.edge) ⊎ (part.edge ≤ j) → passes_at (is_seen ref height) (take noted history) j ≡ false
        either j up (inl below) =
            let edge = part.within in
            take_at (is_seen ref height) noted history j (omega (arith, below, edge)) ∙ off j (top.none j up below)
        either j up (inr high) = behind j high

-- where none of the tail passes a test, the last of the noted that does is the last of all
pub last_of_noted : {X : Type 0} (test : X → Bool) (noted : ℕ) (xs : List X) (found : Option ℕ) → IsLast test (take noted xs) found → IsLastFrom test noted xs None → IsLast test xs found
last_of_noted test noted xs None last none = fails_all test xs (λ j. either j (below_or j noted))
  where
    either : (j : ℕ) → (j < noted) ⊎ (noted ≤ j) → passes_at test xs j ≡ false
    either j (inl below) = sym (take_at test noted xs j below) ∙ all_fails test (take noted xs) last j
    either j (inr up) = drop_fails test noted xs none j up
last_of_noted test noted xs (Some number) last none =
    let points = points_last test (take noted xs) number last in
    let below = take_below test noted xs number points.0 in
    last_points test xs number (sym (take_at test noted xs number below) ∙ points.0) (λ j up. either j up (below_or j noted))
  where
    either : (j : ℕ) → number < j → (j < noted) ⊎ (noted ≤ j) → passes_at test xs j ≡ false
    either j up (inl below) = sym (take_at test noted xs j below) ∙ (points_last test (take noted xs) number last).1 j up
    either j up (inr high) = drop_fails test noted xs none j high

-- ---- one look

-- where a write is in no block above a height, its number says so
pub low_at : (entries : List LogEntry) (height number place : ℕ) (numbers : List ℕ) (entry : LogEntry) → slice_get numbers place ≡ Some number → slice_get entries number ≡ Some entry
    → passes_at (is_low (history_of entries) height) numbers place ≡ nat_le entry.block height
low_at entries height number place numbers entry at there =
    ap (passes (is_low (history_of entries) height)) at ∙ ap (passes (λ (s : Stamped). nat_le s.0 height)) (get_history entries number entry there)

-- what would hold before it, and does not
pub not_behind : (behind here : Bool) → (behind ≡ true → here ≡ true) → here ≡ false → behind ≡ false
not_behind true here then fails = let wrong = then refl in cc
not_behind false here then fails = refl
