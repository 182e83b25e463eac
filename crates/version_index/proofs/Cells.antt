-- Values of rows in a column that may be there.
use Rattle.std.proofs.Common.{◌≡◌, ◌∙◌, ℕ, List, [], ◌∷◌, ◌++◌, Bool, true, false, not, ◌&&◌, ◌||◌, cond, Option, Some, None, is_some, refl, ap, sym, subst}
use Rattle.std.specs.BTreeSet.{BTreeSet}
use Rattle.std.specs.Cmp.{tied_itself}
use Rattle.std.specs.Ordering.{is_eq}
use Rattle.rel_base.specs.declared.value.Value.{Value}
use Rattle.rel_base.specs.Value.{value_cmp-total, value_eq}
use Rattle.rel_base.proofs.Bits.{first_true, no_both, second_true}
use Rattle.version_index.specs.Columns.{HasRoomAt, IsHeld, IsRoomy, IsSameColumn, has, has_same, has_slot}
use Rattle.version_index.specs.declared.column.ColumnIndex.{ColumnIndex}
use Rattle.version_index.specs.declared.touched.Touched.{Touched}
use Rattle.version_index.proofs.AtValues.{same_value}

-- a value is one with itself
pub value_itself : (v : Value) → value_eq v v ≡ true
value_itself v = ap is_eq (tied_itself value_cmp-total v)

-- a value that the other has too
pub unless_same : (v : Value) (value other : Option Value) → has_same value other ≡ true → false ≡ (has v value && not (has v other))
unless_same v None other both = refl
unless_same v (Some value) other both =
    elim (value_eq v value) as (λ b. value_eq v value ≡ b → false ≡ (b && not (has v other))) [
      | true ↦ λ tied. sym (ap not (ap (λ w. has w other) (same_value v value tied) ∙ both))
      | false ↦ λ apart. refl
    ] refl

-- a value that it does not have
pub unless_other : (v : Value) (value other : Option Value) → has_same value other ≡ false → has v value ≡ (has v value && not (has v other))
unless_other v None other apart = refl
unless_other v (Some value) other apart =
    elim (value_eq v value) as (λ b. value_eq v value ≡ b → b ≡ (b && not (has v other))) [
      | true ↦ λ tied. sym (ap not (ap (λ w. has w other) (same_value v value tied) ∙ apart))
      | false ↦ λ other_one. refl
    ] refl

-- room at a value is room at each that is one with it
pub roomy_one : (touched : Touched) (value : Value) → HasRoomAt touched value → IsRoomy touched (Some value)
roomy_one touched value room v tied = subst (HasRoomAt touched) (sym (same_value v value tied)) room

pub roomy_none : (touched : Touched) → IsRoomy touched None
roomy_none touched v never = cc

-- room at a value is there, where it is at another one, and at the first unless it is one with the other
pub roomy_unless : (touched : Touched) (row other left : Option Value) → ((v : Value) → has v left ≡ (has v row && not (has v other))) → IsRoomy touched other → IsRoomy touched left → IsRoomy touched row
roomy_unless touched row other left parts at_other at_left v there = go (has v other) refl
  where
    go : (b : Bool) → has v other ≡ b → HasRoomAt touched v
    go true is = at_other v is
    go false apart = at_left v (parts v ∙ (λ i. there i && not (apart i)))

-- a slot that is at a value is at each that is one with it
pub held_one : (living : List (Value × BTreeSet ℕ)) (value : Value) (slot : ℕ) → has_slot living value slot ≡ true → IsHeld living (Some value) slot
held_one living value slot held v tied = ap (λ w. has_slot living w slot) (same_value v value tied) ∙ held

-- the numbers after one was added at each of three values, at each only once
pub added_all : (f b a : Bool) (f2 b2 : Bool) (number : ℕ) (xs : List ℕ) → f2 ≡ (b && not f) → b2 ≡ ((a && not f) && not b)
    → cond b2 (cond f2 (cond f (xs ++ number ∷ []) xs ++ number ∷ []) (cond f (xs ++ number ∷ []) xs) ++ number ∷ []) (cond f2 (cond f (xs ++ number ∷ []) xs ++ number ∷ []) (cond f (xs ++ number ∷ []) xs))
    ≡ cond (f || b || a) (xs ++ number ∷ []) xs
added_all true true true f2 b2 number xs second third = rw (second, third) refl
added_all true true false f2 b2 number xs second third = rw (second, third) refl
added_all true false true f2 b2 number xs second third = rw (second, third) refl
added_all true false false f2 b2 number xs second third = rw (second, third) refl
added_all false true true f2 b2 number xs second third = rw (second, third) refl
added_all false true false f2 b2 number xs second third = rw (second, third) refl
added_all false false true f2 b2 number xs second third = rw (second, third) refl
added_all false false false f2 b2 number xs second third = rw (second, third) refl

pub not_from : (b : Bool) → not b ≡ true → b ≡ false
not_from true fails = sym fails
not_from false fails = refl

-- the second of two that are apart
pub apart_from : (o f : Bool) → (o ≡ true → f ≡ false) → o ≡ (o && not f)
apart_from true f apart = sym (ap not (apart refl))
apart_from false f apart = refl

-- one of three, of which the last is told unless it is the first
pub or_other : (f b a o : Bool) → o ≡ (a && not f) → (f || b || o) ≡ (f || b || a)
or_other true b a o is = refl
or_other false true a o is = refl
or_other false false true o is = is
or_other false false false o is = is

-- no two tests pass where the second does not
pub and_never : (b : Bool) → (b && false) ≡ false
and_never true = refl
and_never false = refl

-- a slot that is not taken out, or out at another value, stays
pub stays_there : (gone here now old new : Bool) → new ≡ cond (gone && here) false old → (now ≡ true → gone ≡ false) → (here && not now) ≡ false → old ≡ true → new ≡ true
stays_there true true true old new is out off had = absurd (no_both true refl (out refl))
stays_there true true false old new is out off had = cc
stays_there true false now old new is out off had = is ∙ had
stays_there false here now old new is out off had = is ∙ had

-- a value that was found is not the one after, where that is another one
pub gone_apart : (found after other : Option Value) → ((v : Value) → has v other ≡ (has v after && not (has v found))) → is_some other ≡ true → (v : Value) → has v after ≡ true → has v found ≡ false
gone_apart found after None parts some v now = cc
gone_apart found None (Some w) parts some v now = cc
gone_apart found (Some x) (Some w) parts some v now =
    let both : (has w (Some x) && not (has w found)) ≡ true = sym (parts w) ∙ value_itself w in
    ap (λ u. has u found) (same_value v x now ∙ sym (same_value w x (first_true (has w (Some x)) (not (has w found)) both))) ∙ not_from (has w found) (second_true (has w (Some x)) (not (has w found)) both)

-- ---- columns that tell the same

pub same_column : (column : ColumnIndex) → IsSameColumn column column
same_column column = record { column = refl; living = λ value slot had. had; touched = λ value. refl; listed = λ are. are }

pub same_twice : (one two three : ColumnIndex) → IsSameColumn one two → IsSameColumn two three → IsSameColumn one three
same_twice one two three first second =
    record {
      column = second.column ∙ first.column;
      living = λ value slot had. second.living value slot (first.living value slot had);
      touched = λ value. second.touched value ∙ first.touched value;
      listed = λ are. second.listed (first.listed are);
    }
