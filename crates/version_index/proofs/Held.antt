-- What becomes of the last writes on keys when a key is held or noted.
use Rattle.std.proofs.Common.{◌≡◌, ◌∙◌, ℕ, List, Bool, true, false, cond, Option, Some, None, refl, ap, sym, subst, IsTrue, is_some}
use Rattle.std.specs.BTreeMap.{is_at}
use Rattle.std.specs.Map.{lookup}
use Rattle.std.specs.Cmp.{eq_by_cmp_equiv}
use Rattle.std.specs.Ordering.{eq_by_cmp}
use Rattle.rel_base.specs.Value.{key_cmp, key_cmp-total, key_cmp-exact}
use Rattle.rel_base.specs.declared.value.Value.{Value}
use Rattle.rel_base.proofs.Bits.{is_Equal, no_both}
use Rattle.version_index.specs.Heads.{head_of, holds_key, noted}

-- what a map holds at a key
abbrev pub at_key : List (List Value × Option ℕ) → List Value → Option (Option ℕ)
at_key heads key = lookup (is_at (key_cmp key)) heads

-- a map that differs at one key alone
abbrev pub SetAt : List (List Value × Option ℕ) → List (List Value × Option ℕ) → List Value → Option ℕ → Type 0
SetAt old new key head = (q : List Value) → at_key new q ≡ cond (is_at (key_cmp key) q) (Some head) (at_key old q)

nothing_noted : (found : Option (Option ℕ)) → is_some found ≡ false → noted found ≡ None
nothing_noted None absent = refl
nothing_noted (Some head) absent = absurd (no_both true refl absent)

-- a key that was not held is held with no write
pub hold_same : (old new : List (List Value × Option ℕ)) (key : List Value) → holds_key old key ≡ false → SetAt old new key None → (q : List Value) → head_of new q ≡ head_of old q
hold_same old new key absent sets q =
    ap noted (sets q) ∙ elim (is_at (key_cmp key) q) as (λ b. is_at (key_cmp key) q ≡ b → noted (cond b (Some None) (at_key old q)) ≡ noted (at_key old q)) [
      | true ↦ λ tied. sym (nothing_noted (at_key old q) (subst (λ k. is_some (at_key old k) ≡ false) (key_cmp-exact key q (is_Equal (key_cmp key q) tied)) absent))
      | false ↦ λ apart. refl
    ] refl

-- a key that was held is so still
pub set_kept : (old new : List (List Value × Option ℕ)) (key : List Value) (head : Option ℕ) → SetAt old new key head → (q : List Value) → IsTrue (holds_key old q) → IsTrue (holds_key new q)
set_kept old new key head sets q held =
    subst (λ found. IsTrue (is_some found)) (sym (sets q)) (elim (is_at (key_cmp key) q) as (λ b. IsTrue (is_some (cond b (Some head) (at_key old q)))) [ true ↦ refl | false ↦ held ])

-- the last write on the key is the one that was noted, and those on other keys are as they were
pub set_head : (old new : List (List Value × Option ℕ)) (key : List Value) (number : ℕ) → SetAt old new key (Some number) → (q : List Value)
    → head_of new q ≡ cond (eq_by_cmp key_cmp q key) (Some number) (head_of old q)
set_head old new key number sets q =
    ap noted (sets q) ∙ noted_cond (is_at (key_cmp key) q) ∙ ap (λ b. cond b (Some number) (head_of old q)) ((eq_by_cmp_equiv key_cmp-total).symm key q)
  where
    noted_cond : (b : Bool) → noted (cond b (Some (Some number)) (at_key old q)) ≡ cond b (Some number) (noted (at_key old q))
    noted_cond true = refl
    noted_cond false = refl

-- a key that is held is found
pub held_found : (heads : List (List Value × Option ℕ)) (key : List Value) → IsTrue (holds_key heads key) → at_key heads key ≡ None → ⊥
held_found heads key held absent = no_both (holds_key heads key) held (ap is_some absent)
