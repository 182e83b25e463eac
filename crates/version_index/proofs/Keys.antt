-- The slots of keys in the two maps of a table.
use Rattle.std.proofs.Common.{◌≡◌, ◌∙◌, ℕ, List, Bool, true, false, cond, Option, Some, None, refl, ap, is_some, subst, sym, Result, Ok, Err, OnOk}
use Rattle.std.specs.Option.{option_or}
use Rattle.std.specs.BTreeMap.{is_at}
use Rattle.std.specs.Cmp.{eq_by_cmp_equiv, tied_itself}
use Rattle.std.specs.Map.{lookup}
use Rattle.std.specs.Ordering.{is_eq}
use Rattle.rel_base.specs.declared.value.Value.{Value}
use Rattle.rel_base.specs.Value.{key_cmp, key_cmp-total, key_eq}
pub use Rattle.rel_base.proofs.KeyOrder.{same_key}
use Rattle.version_index.specs.Chains.{IsPlaced, slot_by, slot_in}

-- a key is one with itself
pub key_itself : (key : List Value) → key_eq key key ≡ true
key_itself key = ap is_eq (tied_itself key_cmp-total key)

-- a map that differs at one key alone
pub slot_set : (old new : List (List Value × ℕ)) (key : List Value) (now : Option ℕ) → ((q : List Value) → lookup (is_at (key_cmp q)) new ≡ cond (is_at (key_cmp key) q) now (lookup (is_at (key_cmp q)) old))
    → (k : List Value) → slot_in new k ≡ cond (key_eq k key) now (slot_in old k)
slot_set old new key now sets k = sets k ∙ ap (λ b. cond b now (slot_in old k)) ((eq_by_cmp_equiv key_cmp-total).symm key k)

-- what is so of a key already
pub or_same : {X : Type 0} (f : List Value → X) (key k : List Value) (x : X) → f key ≡ x → f k ≡ cond (key_eq k key) x (f k)
or_same f key k x is =
    elim (key_eq k key) as (λ b. key_eq k key ≡ b → f k ≡ cond b x (f k)) [
      | true ↦ λ tied. ap f (same_key k key tied) ∙ is
      | false ↦ λ apart. refl
    ] refl

module _ (living ended living_now ended_now : List (List Value × ℕ)) (key : List Value) (slot : ℕ) where
  -- a key that was put among those with a row, and taken out of the others
  placed_living : ((k : List Value) → slot_in living_now k ≡ cond (key_eq k key) (Some slot) (slot_in living k)) → ((k : List Value) → slot_in ended_now k ≡ cond (key_eq k key) None (slot_in ended k))
      → IsPlaced key slot true living ended living_now ended_now
  placed_living put taken =
      record {
        slots = λ k. (λ i. option_or (put k i) (taken k i)) ∙ first_of (key_eq k key) (slot_in living k) (slot_in ended k);
        lives_now = λ k. ap is_some (put k) ∙ lives_after (key_eq k key) (slot_in living k);
        apart = λ apart k lives. taken k ∙ apart_after (key_eq k key) (slot_in living k) (slot_in ended k) (apart k) (ap is_some (sym (put k)) ∙ lives);
      }
    where
      first_of : (b : Bool) (x y : Option ℕ) → option_or (cond b (Some slot) x) (cond b None y) ≡ cond b (Some slot) (option_or x y)
      first_of true x y = refl
      first_of false x y = refl

      lives_after : (b : Bool) (x : Option ℕ) → is_some (cond b (Some slot) x) ≡ cond b true (is_some x)
      lives_after true x = refl
      lives_after false x = refl

      apart_after : (b : Bool) (x y : Option ℕ) → (is_some x ≡ true → y ≡ None) → is_some (cond b (Some slot) x) ≡ true → cond b None y ≡ None
      apart_after true x y was lives = refl
      apart_after false x y was lives = was lives

  -- the same of a call that may have failed
  pub settled_living : {X E : Type 0} (result : Result X E) (lives : Bool) → lives ≡ true
      → OnOk result ((k : List Value) → slot_in living_now k ≡ cond (key_eq k key) (Some slot) (slot_in living k)) → OnOk result ((k : List Value) → slot_in ended_now k ≡ cond (key_eq k key) None (slot_in ended k))
      → OnOk result (IsPlaced key slot lives living ended living_now ended_now)
  settled_living (Ok x) lives is put taken = subst (λ b. IsPlaced key slot b living ended living_now ended_now) (sym is) (placed_living put taken)
  settled_living (Err e) lives is put taken = put

  -- a key that was put among those whose row was deleted, and taken out of the others
  placed_ended : ((k : List Value) → slot_in ended_now k ≡ cond (key_eq k key) (Some slot) (slot_in ended k)) → ((k : List Value) → slot_in living_now k ≡ cond (key_eq k key) None (slot_in living k))
      → IsPlaced key slot false living ended living_now ended_now
  placed_ended put taken =
      record {
        slots = λ k. (λ i. option_or (taken k i) (put k i)) ∙ first_of (key_eq k key) (slot_in living k) (slot_in ended k);
        lives_now = λ k. ap is_some (taken k) ∙ lives_after (key_eq k key) (slot_in living k);
        apart = λ apart k lives. put k ∙ apart_after (key_eq k key) (slot_in living k) (slot_in ended k) (apart k) (ap is_some (sym (taken k)) ∙ lives);
      }
    where
      first_of : (b : Bool) (x y : Option ℕ) → option_or (cond b None x) (cond b (Some slot) y) ≡ cond b (Some slot) (option_or x y)
      first_of true x y = refl
      first_of false x y = refl

      lives_after : (b : Bool) (x : Option ℕ) → is_some (cond b None x) ≡ cond b false (is_some x)
      lives_after true x = refl
      lives_after false x = refl

      apart_after : (b : Bool) (x y : Option ℕ) → (is_some x ≡ true → y ≡ None) → is_some (cond b None x) ≡ true → cond b (Some slot) y ≡ None
      apart_after true x y was lives = cc
      apart_after false x y was lives = was lives

  -- the same of a call that may have failed
  pub settled_ended : {X E : Type 0} (result : Result X E) (lives : Bool) → lives ≡ false
      → OnOk result ((k : List Value) → slot_in ended_now k ≡ cond (key_eq k key) (Some slot) (slot_in ended k)) → OnOk result ((k : List Value) → slot_in living_now k ≡ cond (key_eq k key) None (slot_in living k))
      → OnOk result (IsPlaced key slot lives living ended living_now ended_now)
  settled_ended (Ok x) lives is put taken = subst (λ b. IsPlaced key slot b living ended living_now ended_now) (sym is) (placed_ended put taken)
  settled_ended (Err e) lives is put taken = put

-- a key that stands in one of the maps is placed there
pub stays_placed : (living ended : List (List Value × ℕ)) (key : List Value) (slot : ℕ) (lives : Bool) → slot_by living ended key ≡ Some slot → lives ≡ is_some (slot_in living key) → IsPlaced key slot lives living ended living ended
stays_placed living ended key slot lives own lived =
    record {
      slots = λ k. or_same (slot_by living ended) key k (Some slot) own;
      lives_now = λ k. or_same (λ q. is_some (slot_in living q)) key k lives (sym lived);
      apart = λ apart. apart;
    }
