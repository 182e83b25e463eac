-- Keys that stand in order, each once.
use Rattle.std.proofs.Common.{◌≡◌, ◌∙◌, ℕ, suc, ◌+◌, List, [], ◌∷◌, ◌++◌, append_assoc, Bool, true, false, ◌||◌, ◌⊎◌, inl, inr, All, cond, Option, Some, None, refl, ap, sym, subst, arith, map, slice_index_or}
use Rattle.std.specs.Bool.{⊤}
use Rattle.std.specs.Borrow.{Bor}
use Rattle.std.specs.Cmp.{nat_cmp_total, tied_itself, upto}
use Rattle.std.specs.List.{AllByRecursion, list_any}
use Rattle.std.specs.List.Sorted.{IsPermutation, IsSorted, IsStrictlySortedBy}
use Rattle.std.specs.Ordering.{eq_by_cmp, is_eq, is_gt, is_lt, ordering_reverse, ordering_then}
use Rattle.std.specs.declared.cmp.Ordering.{Ordering}
use Rattle.std.specs.declared.cmp.Ordering.TheVariants.{Less, Equal, Greater}
use Rattle.std.proofs.lemmas.List.Elements.{All-cons, All-head, All-nil, All-tail, All-weaker}
use Rattle.std.proofs.lemmas.List.Sorted.{list_any-IsPermutation}
use Rattle.rel_base.specs.Tables.{Tables, ref_cmp}
use Rattle.rel_base.specs.Value.{key_cmp, key_cmp-total, key_eq}
use Rattle.rel_base.specs.Access.{read_table}
use Rattle.rel_base.specs.declared.access.Read.{Read}
use Rattle.rel_base.specs.declared.schema.TableDef.{TableDef}
use Rattle.rel_base.specs.declared.value.Value.{Value}
use Rattle.rel_base.proofs.Bits.{either, first_true, no_both, or_left, or_right, second_true}
use Rattle.version_index.specs.Candidates.{has_key}
use Rattle.version_index.specs.Span.{are_rising, distinct, is_above, is_again, keys_in}
use Rattle.version_index.proofs.KeyRows.{among_keys}
use Rattle.version_index.proofs.Keys.{key_itself, same_key}

-- a key does not stand after another
abbrev pub Le : List Value → List Value → Type 0
Le a b = is_gt (key_cmp a b) ≡ false

-- no key stands after a later one
abbrev pub Rises : List (List Value) → Type 0
Rises [] = ⊤
Rises (key ∷ keys) = All (Le key) keys × Rises keys

-- ---- from neighbours in order

module _ {C : Type 0} (cmp : C → C → Ordering) (key_of : C → List Value) (step : (c d : C) → is_lt (cmp d c) ≡ false → Le (key_of c) (key_of d)) where
  tail_sorted : (c : C) (cs : List C) → IsSorted cmp (c ∷ cs) → IsSorted cmp cs
  tail_sorted c cs sorted k d low below =
      let next : suc k + 1 ≡ suc (k + 1) = omega arith in
      subst (λ n. is_lt (cmp (slice_index_or (c ∷ cs) n d) (slice_index_or cs k d)) ≡ false) next (sorted (suc k) d (omega arith) (omega (arith, below)))

  pub rises_sorted : (cs : List C) → IsSorted cmp cs → Rises (map key_of cs)
  rises_sorted [] sorted = tt
  rises_sorted (c ∷ []) sorted = (All-nil (Le (key_of c)), tt)
  rises_sorted (c ∷ e ∷ cs) sorted =
      let rest = rises_sorted (e ∷ cs) (tail_sorted c (e ∷ cs) sorted) in
      let first = step c e (sorted 0 c (omega arith) (omega arith)) in (
        All-cons (Le (key_of c)) (key_of e) (map key_of cs) first (All-weaker (Le (key_of e)) (Le (key_of c)) (λ k up. upto key_cmp-total (key_of c) (key_of e) k first up) (map key_of cs) rest.0),
        rest,
      )

-- ---- each once

-- the keys stand after one
abbrev Behind : List Value → List (List Value) → Type 0
Behind low keys = AllByRecursion (λ key. key_cmp low key ≡ Less) keys

behind_less : (low key : List Value) (keys : List (List Value)) → key_cmp low key ≡ Less → Behind key keys → Behind low keys
behind_less low key [] less behind = tt
behind_less low key (k ∷ keys) less behind = (key_cmp-total.trans low key k less behind.0, behind_less low key keys less behind.1)

-- what is neither after nor one with a key stands before it
is_less : (o : Ordering) → is_gt o ≡ false → is_eq o ≡ false → o ≡ Less
is_less Less up apart = refl
is_less Equal up apart = absurd (no_both true refl apart)
is_less Greater up apart = absurd (no_both true refl up)

distinct_behind : (last : List Value) (keys : List (List Value)) → All (Le last) keys → Rises keys → IsStrictlySortedBy key_cmp (distinct (Some last) keys) × Behind last (distinct (Some last) keys)
unfolding IsStrictlySortedBy
distinct_behind last [] all rises = (tt, tt)
distinct_behind last (key ∷ keys) all rises =
    let Both : List (List Value) → Type 0 = λ ks. IsStrictlySortedBy key_cmp ks × Behind last ks in
    elim (key_eq last key) as (λ b. key_eq last key ≡ b → Both (cond b (distinct (Some last) keys) (key ∷ distinct (Some key) keys))) [
      | true ↦ λ again. distinct_behind last keys (All-tail (Le last) key keys all) rises.1
      | false ↦ λ apart.
          let rest = distinct_behind key keys rises.0 rises.1 in
          let less = is_less (key_cmp last key) (All-head (Le last) key keys all) apart in
          ((rest.1, rest.0), (less, behind_less last key (distinct (Some key) keys) less rest.1))
    ] refl

pub distinct_rises : (keys : List (List Value)) → Rises keys → IsStrictlySortedBy key_cmp (distinct None keys)
unfolding IsStrictlySortedBy
distinct_rises [] rises = tt
distinct_rises (key ∷ keys) rises = let rest = distinct_behind key keys rises.0 rises.1 in (rest.1, rest.0)

-- ---- in order as they are

above_less : (o : Ordering) → is_lt o ≡ true → o ≡ Less
above_less Less up = refl
above_less Equal up = cc
above_less Greater up = cc

rising_behind : (last : List Value) (keys : List (List Value)) → are_rising (Some last) keys ≡ true → IsStrictlySortedBy key_cmp keys × Behind last keys
unfolding IsStrictlySortedBy
rising_behind last [] rising = (tt, tt)
rising_behind last (key ∷ keys) rising =
    let less = above_less (key_cmp last key) (first_true (is_above (Some last) key) (are_rising (Some key) keys) rising) in
    let rest = rising_behind key keys (second_true (is_above (Some last) key) (are_rising (Some key) keys) rising) in
    ((rest.1, rest.0), (less, behind_less last key keys less rest.1))

-- keys of which each stands after the one before it
pub rising_sorted : (keys : List (List Value)) → are_rising None keys ≡ true → IsStrictlySortedBy key_cmp keys
unfolding IsStrictlySortedBy
rising_sorted [] rising = tt
rising_sorted (key ∷ keys) rising = let rest = rising_behind key keys rising in (rest.1, rest.0)

-- ---- kept each once

pub keys_push : (found : List (Bor (List Value) × Option ℕ)) (c : Bor (List Value) × Option ℕ) → keys_in (found ++ c ∷ []) ≡ keys_in found ++ c.0.now ∷ []
keys_push [] c = refl
keys_push (d ∷ found) c = ap (λ keys. d.0.now ∷ keys) (keys_push found c)

-- a key that stands again is not kept
pub kept_again : (made whole : List (List Value)) (last : Option (List Value)) (key : List Value) (keys : List (List Value)) → is_again last key ≡ true → made ++ distinct last (key ∷ keys) ≡ whole → made ++ distinct last keys ≡ whole
kept_again made whole last key keys again is = ap (λ b. made ++ cond b (distinct last keys) (key ∷ distinct (Some key) keys)) (sym again) ∙ is

-- a new one is
pub kept_new : (made whole : List (List Value)) (last : Option (List Value)) (key : List Value) (keys : List (List Value)) → is_again last key ≡ false → made ++ distinct last (key ∷ keys) ≡ whole
    → (made ++ key ∷ []) ++ distinct (Some key) keys ≡ whole
kept_new made whole last key keys apart is =
    append_assoc made (key ∷ []) (distinct (Some key) keys) ∙ ap (λ b. made ++ cond b (distinct last keys) (key ∷ distinct (Some key) keys)) (sym apart) ∙ is

-- ---- none is lost

-- whether a key is one of some
abbrev pub has : List Value → List (List Value) → Bool
has key keys = list_any (key_eq key) keys

pub distinct_has : (last : Option (List Value)) (key : List Value) (keys : List (List Value)) → has key keys ≡ true → (is_again last key ≡ true) ⊎ (has key (distinct last keys) ≡ true)
distinct_has last key [] is = cc
distinct_has last key (k ∷ ks) is = go (is_again last k) refl (either (key_eq key k) (has key ks) is) (distinct_has last key ks) (distinct_has (Some k) key ks)
  where
    further : (is_again (Some k) key ≡ true) ⊎ (has key (distinct (Some k) ks) ≡ true) → has key (k ∷ distinct (Some k) ks) ≡ true
    further (inl again) = or_left (key_eq key k) (has key (distinct (Some k) ks)) (subst (λ q. key_eq q k ≡ true) (same_key k key again) (key_itself k))
    further (inr rest) = or_right (key_eq key k) (has key (distinct (Some k) ks)) rest

    go : (b : Bool) → is_again last k ≡ b → (key_eq key k ≡ true) ⊎ (has key ks ≡ true) → (has key ks ≡ true → (is_again last key ≡ true) ⊎ (has key (distinct last ks) ≡ true))
        → (has key ks ≡ true → (is_again (Some k) key ≡ true) ⊎ (has key (distinct (Some k) ks) ≡ true)) → (is_again last key ≡ true) ⊎ (has key (cond b (distinct last ks) (k ∷ distinct (Some k) ks)) ≡ true)
    go true again (inl same) rest fresh = inl (subst (λ q. is_again last q ≡ true) (sym (same_key key k same)) again)
    go true again (inr inside) rest fresh = rest inside
    go false apart (inl same) rest fresh = inr (or_left (key_eq key k) (has key (distinct (Some k) ks)) same)
    go false apart (inr inside) rest fresh = inr (further (fresh inside))

-- a key that was found is one of the keys
pub found_has : (key : List Value) (found : List (Bor (List Value) × Option ℕ)) → has_key found key ≡ has key (keys_in found)
found_has key [] = refl
found_has key (c ∷ found) = ap (λ b. key_eq key c.0.now || b) (found_has key found)

-- and so it is among those of its table
pub has_among : (def : TableDef) (read : Read) (tables : Tables) (key : List Value) (keys : List (List Value)) → has key keys ≡ true → among_keys def read tables (read_table read, key) keys ≡ true
has_among def read tables key keys is = same keys ∙ is
  where
    one : (k : List Value) → eq_by_cmp ref_cmp (read_table read, key) (read_table read, k) ≡ key_eq key k
    one k = ap (λ o. is_eq (ordering_then o (key_cmp key k))) (tied_itself nat_cmp_total (read_table read))

    same : (ks : List (List Value)) → among_keys def read tables (read_table read, key) ks ≡ has key ks
    same [] = refl
    same (k ∷ ks) = (λ i. one k i || same ks i)

-- a key that was found is among the keys
pub found_among : (def : TableDef) (read : Read) (tables : Tables) (key : List Value) (found : List (Bor (List Value) × Option ℕ)) → has_key found key ≡ true
    → among_keys def read tables (read_table read, key) (keys_in found) ≡ true
found_among def read tables key found is = has_among def read tables key (keys_in found) (sym (found_has key found) ∙ is)

-- and among those that are kept, where each is kept once
pub kept_has : (key : List Value) (found kept : List (Bor (List Value) × Option ℕ)) → keys_in kept ≡ distinct None (keys_in found) → has_key found key ≡ true → has_key kept key ≡ true
kept_has key found kept same is = found_has key kept ∙ ap (has key) same ∙ go (distinct_has None key (keys_in found) (sym (found_has key found) ∙ is))
  where
    go : (is_again None key ≡ true) ⊎ (has key (distinct None (keys_in found)) ≡ true) → has key (distinct None (keys_in found)) ≡ true
    go (inl again) = cc
    go (inr inside) = inside

-- ---- what a sort leaves

-- what is not less by its key first is not before it
pub le_first : (a b : List Value) (rest : Ordering) → is_lt (ordering_then (key_cmp b a) rest) ≡ false → Le a b
le_first a b rest up = ap is_gt (key_cmp-total.antisymm a b) ∙ go (key_cmp b a) up
  where
    go : (o : Ordering) → is_lt (ordering_then o rest) ≡ false → is_gt (ordering_reverse o) ≡ false
    go Less up = cc
    go Equal up = refl
    go Greater up = refl

pub sorted_has : (old sorted : List (Bor (List Value) × Option ℕ)) → IsPermutation old sorted → (key : List Value) → has_key old key ≡ true → has_key sorted key ≡ true
sorted_has old sorted same key is = sym (list_any-IsPermutation (λ c. key_eq key c.0.now) old sorted same) ∙ is
