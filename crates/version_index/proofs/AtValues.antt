-- What becomes of the slots at each value when those at one value change.
use Rattle.std.proofs.Common.{◌≡◌, ◌∙◌, ℕ, List, Bool, true, false, ◌&&◌, ◌==◌, cond, Option, Some, None, refl, ap, sym}
use Rattle.std.specs.BTreeMap.{is_at}
use Rattle.std.specs.BTreeSet.{BTreeSet}
use Rattle.std.specs.Cmp.{eq_by_cmp_equiv, tied_itself}
use Rattle.std.specs.Map.{lookup}
use Rattle.std.specs.Ordering.{is_eq}
use Rattle.rel_base.specs.declared.value.Value.{Value}
use Rattle.rel_base.specs.Value.{value_cmp, value_cmp-exact, value_cmp-total, value_eq}
use Rattle.rel_base.proofs.Bits.{is_Equal, no_both}
use Rattle.version_index.specs.Columns.{has_in, has_slot}

-- values that are one in the order are one
pub same_value : (a b : Value) → value_eq a b ≡ true → a ≡ b
same_value a b tied = value_cmp-exact a b (is_Equal (value_cmp a b) tied)

-- a test by the order either way round
pub turned : (a b : Value) → is_at (value_cmp a) b ≡ value_eq b a
turned a b = (eq_by_cmp_equiv value_cmp-total).symm a b

module _ {X : Type 0} where
  -- a map by values that differs at one value alone
  abbrev pub SetAt : List (Value × X) → List (Value × X) → Value → Option X → Type 0
  SetAt old new value now = (q : Value) → lookup (is_at (value_cmp q)) new ≡ cond (is_at (value_cmp value) q) now (lookup (is_at (value_cmp q)) old)

  -- what is reported of the new map at a value, by what is reported of the old one
  pub told_at : {Y : Type 0} (f : Option X → Y) (old new : List (Value × X)) (value : Value) (now : Option X) → SetAt old new value now → (v : Value)
      → f (lookup (is_at (value_cmp v)) new) ≡ cond (value_eq v value) (f now) (f (lookup (is_at (value_cmp v)) old))
  told_at f old new value now sets v = ap f (sets v ∙ ap (λ b. cond b now (lookup (is_at (value_cmp v)) old)) (turned value v)) ∙ inside (value_eq v value)
    where
      inside : (b : Bool) → f (cond b now (lookup (is_at (value_cmp v)) old)) ≡ cond b (f now) (f (lookup (is_at (value_cmp v)) old))
      inside true = refl
      inside false = refl

  -- what the old map had at the value, it had at each value that is one with it
  pub had_at : (old : List (Value × X)) (value : Value) (was : Option X) (v : Value) → lookup (is_at (value_cmp value)) old ≡ was → value_eq v value ≡ true → lookup (is_at (value_cmp v)) old ≡ was
  had_at old value was v there tied = ap (λ w. lookup (is_at (value_cmp w)) old) (same_value v value tied) ∙ there

module _ (old new : List (Value × BTreeSet ℕ)) (value : Value) where
  -- whether a slot is at each value
  slots_told : (now : Option (BTreeSet ℕ)) → SetAt old new value now → (v : Value) (s : ℕ) → has_slot new v s ≡ cond (value_eq v value) (has_in now s) (has_slot old v s)
  slots_told now sets v s = told_at (λ found. has_in found s) old new value now sets v

  -- the same at each value, where it is the same at the one that changed
  pub slots_same : (was now : Option (BTreeSet ℕ)) → lookup (is_at (value_cmp value)) old ≡ was → SetAt old new value now → ((s : ℕ) → has_in now s ≡ has_in was s)
      → (v : Value) (s : ℕ) → has_slot new v s ≡ has_slot old v s
  slots_same was now there sets same v s =
      slots_told now sets v s ∙ elim (value_eq v value) as (λ b. value_eq v value ≡ b → cond b (has_in now s) (has_slot old v s) ≡ has_slot old v s) [
        | true ↦ λ tied. same s ∙ ap (λ found. has_in found s) (sym (had_at old value was v there tied))
        | false ↦ λ apart. refl
      ] refl

  -- none is lost
  pub slots_kept : (was now : BTreeSet ℕ) → lookup (is_at (value_cmp value)) old ≡ Some was → SetAt old new value (Some now) → ((s : ℕ) → has_in (Some was) s ≡ true → has_in (Some now) s ≡ true)
      → (v : Value) (s : ℕ) → has_slot old v s ≡ true → has_slot new v s ≡ true
  slots_kept was now there sets kept v s had = slots_told (Some now) sets v s ∙ go (value_eq v value) refl
    where
      go : (b : Bool) → value_eq v value ≡ b → cond b (has_in (Some now) s) (has_slot old v s) ≡ true
      go true tied = kept s (sym (ap (λ found. has_in found s) (had_at old value (Some was) v there tied)) ∙ had)
      go false apart = had

  -- and one that was put in is there
  pub slots_held : (now : BTreeSet ℕ) (slot : ℕ) → SetAt old new value (Some now) → has_in (Some now) slot ≡ true → has_slot new value slot ≡ true
  slots_held now slot sets put = slots_told (Some now) sets value slot ∙ ap (λ b. cond b (has_in (Some now) slot) (has_slot old value slot)) (ap is_eq (tied_itself value_cmp-total value)) ∙ put

  -- a value that no slot was at
  pub slots_new : (now : BTreeSet ℕ) → lookup (is_at (value_cmp value)) old ≡ None → SetAt old new value (Some now) → (v : Value) (s : ℕ) → has_slot old v s ≡ true → has_slot new v s ≡ true
  slots_new now there sets v s had = slots_told (Some now) sets v s ∙ go (value_eq v value) refl
    where
      go : (b : Bool) → value_eq v value ≡ b → cond b (has_in (Some now) s) (has_slot old v s) ≡ true
      go true tied = absurd (no_both (has_slot old v s) had (ap (λ found. has_in found s) (had_at old value None v there tied)))
      go false apart = had

  -- one slot less
  pub slots_taken : (was now : BTreeSet ℕ) (slot : ℕ) → lookup (is_at (value_cmp value)) old ≡ Some was → SetAt old new value (Some now)
      → ((s : ℕ) → has_in (Some now) s ≡ cond (s == slot) false (has_in (Some was) s))
      → (v : Value) (s : ℕ) → has_slot new v s ≡ cond (value_eq v value && s == slot) false (has_slot old v s)
  slots_taken was now slot there sets taken v s =
      slots_told (Some now) sets v s ∙ elim (value_eq v value) as (λ b. value_eq v value ≡ b → cond b (has_in (Some now) s) (has_slot old v s) ≡ cond (b && s == slot) false (has_slot old v s)) [
        | true ↦ λ tied. taken s ∙ ap (λ found. cond (s == slot) false (has_in found s)) (sym (had_at old value (Some was) v there tied))
        | false ↦ λ apart. refl
      ] refl

-- where no slot is at a value, none is taken out there
pub slots_absent : (old : List (Value × BTreeSet ℕ)) (value : Value) (slot : ℕ) → lookup (is_at (value_cmp value)) old ≡ None → (v : Value) (s : ℕ) → has_slot old v s ≡ cond (value_eq v value && s == slot) false (has_slot old v s)
slots_absent old value slot there v s =
    elim (value_eq v value) as (λ b. value_eq v value ≡ b → has_slot old v s ≡ cond (b && s == slot) false (has_slot old v s)) [
      | true ↦ λ tied.
          let none : has_slot old v s ≡ false = ap (λ found. has_in found s) (had_at old value None v there tied) in
          none ∙ sym (ap (cond (s == slot) false) none ∙ either (s == slot))
      | false ↦ λ apart. refl
    ] refl
  where
    either : (b : Bool) → cond b false false ≡ false
    either true = refl
    either false = refl
