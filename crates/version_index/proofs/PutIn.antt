-- Keys that were put in, by the marks of their places.
use Rattle.std.proofs.Common.{◌≡◌, ◌∙◌, ◌<◌, ◌⊎◌, inl, inr, ℕ, List, [], ◌∷◌, ◌++◌, Bool, true, false, cond, Contains, Option, Some, None, is_some, length, slice_get, refl, ap, sym, subst, arith}
use Rattle.std.specs.Option.{option_or}
use Rattle.std.proofs.lemmas.List.Elements.{Contains-push_cases}
use Rattle.rel_base.specs.declared.value.Value.{Value}
use Rattle.rel_base.specs.Value.{key_eq}
use Rattle.rel_base.proofs.Bits.{no_both}
use Rattle.version_index.specs.Chains.{AreAllIn, AreIn, IsPlaced, slot_by, slot_in, slot_of}
use Rattle.version_index.specs.Hashing.{allows, key_hash, mark_of, may_be_in, place_of}
use Rattle.version_index.specs.declared.chains.Chains.{Chains}
use Rattle.version_index.proofs.Adding.{ByOne}
use Rattle.version_index.proofs.Keys.{same_key}
use Rattle.version_index.proofs.Marked.{by_key}

-- ---- marks

-- a key has a mark
mark_some : (hash : ℕ) → 0 < mark_of hash
unfolding mark_of
mark_some hash = omega arith

-- what was in stays in where marks are joined
pub stays_in : (old new : List ℕ) → length new ≡ length old → ((p m : ℕ) → 0 < m → allows (slice_get old p) m ≡ true → allows (slice_get new p) m ≡ true)
    → (hash : ℕ) → may_be_in old hash ≡ true → may_be_in new hash ≡ true
stays_in old new same kept hash was =
    subst (λ count. allows (slice_get new (place_of hash count)) (mark_of hash) ≡ true) (sym same) (kept (place_of hash (length old)) (mark_of hash) (mark_some hash) was)

-- ---- the keys of a map

-- the keys of some entries were put in
abbrev pub AreAllOf : List (List Value × ℕ) → List ℕ → Type 0
AreAllOf es marks = (k : List Value) → ByOne es (λ e q. q ≡ e.0) k → may_be_in marks (key_hash k) ≡ true

pub keys_start : (marks : List ℕ) → AreAllOf [] marks
keys_start marks k some = let below = some.1.1 in absurd (omega (arith, below))

pub keys_next : (es : List (List Value × ℕ)) (e : List Value × ℕ) (old new : List ℕ) (hash : ℕ) → AreAllOf es old → ((h : ℕ) → may_be_in old h ≡ true → may_be_in new h ≡ true) → hash ≡ key_hash e.0 → may_be_in new hash ≡ true
    → AreAllOf (es ++ e ∷ []) new
keys_next es e old new hash before kept is own k some = go (Contains-push_cases es e some.0 some.1)
  where
    go : Contains es some.0 ⊎ (e ≡ some.0) → may_be_in new (key_hash k) ≡ true
    go (inl here) = kept (key_hash k) (before k (some.0, here, some.2))
    go (inr same) = subst (λ h. may_be_in new h ≡ true) (is ∙ ap (λ x. key_hash x.0) same ∙ ap key_hash (sym some.2)) own

pub keys_done : (slots : List (List Value × ℕ)) (marks : List ℕ) → AreAllOf slots marks → (k : List Value) → is_some (slot_in slots k) ≡ true → may_be_in marks (key_hash k) ≡ true
keys_done slots marks all k some = all k (by_key slots k some)

-- ---- the keys of two maps

some_of : (a b : Option ℕ) → is_some (option_or a b) ≡ true → (is_some a ≡ true) ⊎ (is_some b ≡ true)
some_of (Some x) b is = inl refl
some_of None b is = inr is

-- both were put in, one after the other
pub both_in : (living ended : List (List Value × ℕ)) (mid new : List ℕ) → ((k : List Value) → is_some (slot_in living k) ≡ true → may_be_in mid (key_hash k) ≡ true)
    → ((h : ℕ) → may_be_in mid h ≡ true → may_be_in new h ≡ true) → ((k : List Value) → is_some (slot_in ended k) ≡ true → may_be_in new (key_hash k) ≡ true) → AreIn living ended new
both_in living ended mid new one kept other k some = go (some_of (slot_in living k) (slot_in ended k) some)
  where
    go : (is_some (slot_in living k) ≡ true) ⊎ (is_some (slot_in ended k) ≡ true) → may_be_in new (key_hash k) ≡ true
    go (inl is) = kept (key_hash k) (one k is)
    go (inr is) = other k is

-- the maps stayed
pub same_in : (living ended living_now ended_now : List (List Value × ℕ)) (marks : List ℕ) → living_now ≡ living → ended_now ≡ ended → AreIn living ended marks → AreIn living_now ended_now marks
same_in living ended living_now ended_now marks one other all k some = all k (subst (λ found. is_some found ≡ true) (λ i. slot_by (one i) (other i) k) some)

-- a key that was not put in has no slot
pub not_in : (chains : Chains) (key : List Value) (hash : ℕ) → AreAllIn chains → hash ≡ key_hash key → may_be_in chains.guesses.marks.items hash ≡ false → None ≡ slot_of chains key
not_in chains key hash all is none = go (slot_of chains key) refl
  where
    go : (found : Option ℕ) → slot_of chains key ≡ found → None ≡ found
    go None found = refl
    go (Some slot) found =
        absurd (no_both (may_be_in chains.guesses.marks.items hash) (subst (λ h. may_be_in chains.guesses.marks.items h ≡ true) (sym is) (all key (ap is_some found))) none)

module _ (living ended living_now ended_now : List (List Value × ℕ)) (key : List Value) (slot : ℕ) (lives : Bool) (placed : IsPlaced key slot lives living ended living_now ended_now) where
  -- a key that had a slot was placed
  pub next_in : (marks : List ℕ) → slot_by living ended key ≡ Some slot → AreIn living ended marks → AreIn living_now ended_now marks
  next_in marks own all k some = all k (go (key_eq k key) refl)
    where
      go : (b : Bool) → key_eq k key ≡ b → is_some (slot_by living ended k) ≡ true
      go true tied = ap (λ q. is_some (slot_by living ended q)) (same_key k key tied) ∙ ap is_some own
      go false apart = ap is_some (sym (placed.slots k ∙ ap (λ b. cond b (Some slot) (slot_by living ended k)) apart)) ∙ some

  -- a key was put in and placed
  pub first_in : (mid new : List ℕ) (hash : ℕ) → AreIn living ended mid → ((h : ℕ) → may_be_in mid h ≡ true → may_be_in new h ≡ true) → hash ≡ key_hash key → may_be_in new hash ≡ true → AreIn living_now ended_now new
  first_in mid new hash all kept is own k some = go (key_eq k key) refl
    where
      go : (b : Bool) → key_eq k key ≡ b → may_be_in new (key_hash k) ≡ true
      go true tied = subst (λ h. may_be_in new h ≡ true) (is ∙ ap key_hash (sym (same_key k key tied))) own
      go false apart = kept (key_hash k) (all k (ap is_some (sym (placed.slots k ∙ ap (λ b. cond b (Some slot) (slot_by living ended k)) apart)) ∙ some))
