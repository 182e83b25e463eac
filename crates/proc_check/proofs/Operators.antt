-- Operators of values of the kinds that the check wants give a value of the kind that it tells, or a fault of the transaction.
use Rattle.std.proofs.Common.{◌≡◌, ℕ, ℤ, pos, refl, sym, subst, List, ◌∷◌, ◌++◌, Bool, true, false, cond, Result, Ok, Err, Option, Some, None}
use Rattle.std.specs.Prelude.{◌+ℤ◌, ◌-ℤ◌, ◌*ℤ◌, nat_le, length, int_div, int_rem, neg_ℤ}
use Rattle.std.specs.List.{AllByRecursion}
use Rattle.std.specs.Ordering.{int_eq, is_eq, is_ne, is_lt, is_le, is_gt, is_ge}
use Rattle.std.specs.declared.cmp.Ordering.{Ordering}
use Rattle.rel_base.specs.declared.value.Kind.{Kind}
use Rattle.rel_base.specs.declared.value.Kind.TheVariants as kind
use Rattle.rel_base.specs.declared.value.Value.{Value}
use Rattle.rel_base.specs.declared.value.Value.TheVariants as value
use Rattle.proc_syntax.specs.declared.fault.Fault.TheVariants as fault
use Rattle.proc_syntax.specs.declared.run.Stop.{Stop}
use Rattle.proc_syntax.specs.declared.run.Stop.TheVariants as stop
use Rattle.proc_syntax.specs.declared.tree.Op.{Op}
use Rattle.proc_syntax.specs.declared.tree.Op.TheVariants as op
use Rattle.proc_syntax.specs.Meaning.{end_has}
use Rattle.proc_syntax.specs.Values.{◌>>=◌, found, has_kind, have_kinds, number, fits_64, text, quotient, negation_of, flag_of, not_of, compared, and_of, or_of, two_of, apply}
use Rattle.proc_syntax.proofs.Fits.{kind_holds}
use Rattle.proc_check.specs.Kinds.{operand_kind, result_kind}

pub no_truth : false ≡ true → ⊥
no_truth h = subst (λ b. cond b ⊥ (Unit {0})) h tt

-- a stop of a well typed procedure
abbrev pub IsFault : Stop → Type 0
IsFault (stop.Fault fault) = Unit {0}
IsFault stop.IllTyped = ⊥

-- a value of a kind, or a fault of the transaction
abbrev pub GivesKind : Kind → Result Value Stop → Type 0
GivesKind k (Ok v) = has_kind k v ≡ true
GivesKind k (Err why) = IsFault why

-- ---- values of a kind

pub ints : (P : Value → Type 0) → ((n : ℤ) → P (value.Int n)) → (v : Value) → has_kind kind.Int v ≡ true → P v
ints P f (value.Int n) h = f n
ints P f (value.Text t) h = absurd (no_truth h)
ints P f (value.Bool b) h = absurd (no_truth h)
ints P f (value.Bytes b) h = absurd (no_truth h)

pub texts : (P : Value → Type 0) → ((t : List ℕ) → P (value.Text t)) → (v : Value) → has_kind kind.Text v ≡ true → P v
texts P f (value.Int n) h = absurd (no_truth h)
texts P f (value.Text t) h = f t
texts P f (value.Bool b) h = absurd (no_truth h)
texts P f (value.Bytes b) h = absurd (no_truth h)

pub bools : (P : Value → Type 0) → ((b : Bool) → P (value.Bool b)) → (v : Value) → has_kind kind.Bool v ≡ true → P v
bools P f (value.Int n) h = absurd (no_truth h)
bools P f (value.Text t) h = absurd (no_truth h)
bools P f (value.Bool b) h = f b
bools P f (value.Bytes b) h = absurd (no_truth h)

-- ---- operators

number_kind : (n : ℤ) → GivesKind kind.Int (number n)
number_kind n = elim (fits_64 n) as (λ b. GivesKind kind.Int (cond b (Ok (value.Int n)) (Err (stop.Fault fault.Overflow)))) [ true ↦ refl | false ↦ tt ]

quotient_kind : (a b : ℤ) → GivesKind kind.Int (quotient a b)
quotient_kind a b = elim (int_eq b (pos 0)) as (λ z. GivesKind kind.Int (cond z (Err (stop.Fault fault.ZeroDivide)) (number (int_div a b)))) [ true ↦ tt | false ↦ number_kind (int_div a b) ]

left_over : (a b : ℤ) (r : Result Value Stop) → GivesKind kind.Int r → GivesKind kind.Int (r >>= λ q. Ok (value.Int (int_rem a b)))
left_over a b (Ok q) h = refl
left_over a b (Err why) h = h

text_kind : (bytes : List ℕ) → GivesKind kind.Text (text bytes)
text_kind bytes = elim (nat_le (length bytes) 255) as (λ b. GivesKind kind.Text (cond b (Ok (value.Text bytes)) (Err (stop.Fault fault.TextTooLong)))) [ true ↦ refl | false ↦ tt ]

-- a function of two ints that gives an int
arith_kind : (f : Value → Value → Result Value Stop) → ((a b : ℤ) → GivesKind kind.Int (f (value.Int a) (value.Int b))) → (v w : Value) → has_kind kind.Int v ≡ true → has_kind kind.Int w ≡ true → GivesKind kind.Int (f v w)
arith_kind f each v w of_v of_w = ints (λ v. GivesKind kind.Int (f v w)) (λ a. ints (λ w. GivesKind kind.Int (f (value.Int a) w)) (each a) w of_w) v of_v

join_kind : (v w : Value) → has_kind kind.Text v ≡ true → has_kind kind.Text w ≡ true → GivesKind kind.Text (two_of op.Join v w)
join_kind v w of_v of_w = texts (λ v. GivesKind kind.Text (two_of op.Join v w)) (λ a. texts (λ w. GivesKind kind.Text (two_of op.Join (value.Text a) w)) (λ b. text_kind (a ++ b)) w of_w) v of_v

compared_kind : (test : Ordering → Bool) (k : Kind) (v w : Value) → has_kind k v ≡ true → has_kind k w ≡ true → GivesKind kind.Bool (compared test v w)
compared_kind test k v w of_v of_w = rw (kind_holds k v of_v, of_w) refl

flagged : (r : Result Value Stop) → GivesKind kind.Bool r → GivesKind kind.Bool (r >>= λ v. flag_of v >>= λ c. Ok (value.Bool c))
flagged (Ok v) h = bools (λ v. GivesKind kind.Bool (flag_of v >>= λ c. Ok (value.Bool c))) (λ b. refl) v h
flagged (Err why) h = h

or_kind : (v : Value) (r : Result Value Stop) → has_kind kind.Bool v ≡ true → GivesKind kind.Bool r → GivesKind kind.Bool (or_of v r)
or_kind v r of_v h = bools (λ v. GivesKind kind.Bool (or_of v r)) (λ b. elim b as (λ b. GivesKind kind.Bool (or_of (value.Bool b) r)) [ true ↦ refl | false ↦ flagged r h ]) v of_v

and_kind : (v : Value) (r : Result Value Stop) → has_kind kind.Bool v ≡ true → GivesKind kind.Bool r → GivesKind kind.Bool (and_of v r)
and_kind v r of_v h = bools (λ v. GivesKind kind.Bool (and_of v r)) (λ b. elim b as (λ b. GivesKind kind.Bool (and_of (value.Bool b) r)) [ true ↦ flagged r h | false ↦ refl ]) v of_v

pub not_kind : (k : Kind) (r : Result Value Stop) → kind.Bool ≡ k → GivesKind kind.Bool r → GivesKind k (r >>= not_of)
not_kind k (Ok v) is h = subst (λ k. GivesKind k (not_of v)) is (bools (λ v. GivesKind kind.Bool (not_of v)) (λ b. refl) v h)
not_kind k (Err why) is h = h

pub negation_kind : (k : Kind) (r : Result Value Stop) → kind.Int ≡ k → GivesKind kind.Int r → GivesKind k (r >>= negation_of)
negation_kind k (Ok v) is h = subst (λ k. GivesKind k (negation_of v)) is (ints (λ v. GivesKind kind.Int (negation_of v)) (λ a. number_kind (neg_ℤ a)) v h)
negation_kind k (Err why) is h = h

-- ---- an operator between a value and what the right side gives

-- the kind of the operands is the one that is needed, if one is
abbrev pub IsOperand : Option Kind → Kind → Type 0
IsOperand None k = Unit {0}
IsOperand (Some needed) k = needed ≡ k

then_two : (f : Value → Result Value Stop) (k given : Kind) (r : Result Value Stop) → ((w : Value) → has_kind k w ≡ true → GivesKind given (f w)) → GivesKind k r → GivesKind given (r >>= f)
then_two f k given (Ok w) each h = each w h
then_two f k given (Err why) each h = h

module _ (k : Kind) (v : Value) (r : Result Value Stop) (of_v : has_kind k v ≡ true) (of_r : GivesKind k r) where
  by_ints : (f : Value → Value → Result Value Stop) → ((a b : ℤ) → GivesKind kind.Int (f (value.Int a) (value.Int b))) → kind.Int ≡ k → GivesKind kind.Int (r >>= f v)
  by_ints f each is = then_two (f v) k kind.Int r (λ w of_w. arith_kind f each v w (rw is of_v) (rw is of_w)) of_r

  by_order : (test : Ordering → Bool) → GivesKind kind.Bool (r >>= compared test v)
  by_order test = then_two (compared test v) k kind.Bool r (λ w of_w. compared_kind test k v w of_v of_w) of_r

  pub apply_kind : (o : Op) → IsOperand (operand_kind o) k → GivesKind (result_kind (operand_kind o)) (apply o v r)
  apply_kind op.Or is = or_kind v r (rw is of_v) (rw is of_r)
  apply_kind op.And is = and_kind v r (rw is of_v) (rw is of_r)
  apply_kind op.Eq is = by_order is_eq
  apply_kind op.Ne is = by_order is_ne
  apply_kind op.Lt is = by_order is_lt
  apply_kind op.Le is = by_order is_le
  apply_kind op.Gt is = by_order is_gt
  apply_kind op.Ge is = by_order is_ge
  apply_kind op.Add is = by_ints (two_of op.Add) (λ a b. number_kind (a +ℤ b)) is
  apply_kind op.Sub is = by_ints (two_of op.Sub) (λ a b. number_kind (a -ℤ b)) is
  apply_kind op.Join is = then_two (two_of op.Join v) k kind.Text r (λ w of_w. join_kind v w (rw is of_v) (rw is of_w)) of_r
  apply_kind op.Mul is = by_ints (two_of op.Mul) (λ a b. number_kind (a *ℤ b)) is
  apply_kind op.Div is = by_ints (two_of op.Div) quotient_kind is
  apply_kind op.Rem is = by_ints (two_of op.Rem) (λ a b. left_over a b (quotient a b) (quotient_kind a b)) is

-- the whole operator
pub two_typed : (o : Op) (k given : Kind) (l r : Result Value Stop) → IsOperand (operand_kind o) k → result_kind (operand_kind o) ≡ given → GivesKind k l → GivesKind k r → GivesKind given (l >>= λ v. apply o v r)
two_typed o k given (Ok v) r is gives of_l of_r = subst (λ k. GivesKind k (apply o v r)) gives (apply_kind k v r of_l of_r o is)
two_typed o k given (Err why) r is gives of_l of_r = of_l

-- ---- several values

-- a value of each kind, or a fault of the transaction
abbrev pub GivesKinds : List Kind → Result (List Value) Stop → Type 0
GivesKinds ks (Ok vs) = have_kinds ks vs ≡ true
GivesKinds ks (Err why) = IsFault why

pub cons_kinds : (k : Kind) (ks : List Kind) (r : Result Value Stop) (rs : Result (List Value) Stop) → GivesKind k r → GivesKinds ks rs → GivesKinds (k ∷ ks) (r >>= λ v. rs >>= λ vs. Ok (v ∷ vs))
cons_kinds k ks (Ok v) (Ok vs) h hs = rw (h, hs) refl
cons_kinds k ks (Ok v) (Err why) h hs = hs
cons_kinds k ks (Err why) rs h hs = h

-- an end of a kind, where it is given, or a fault of the transaction
abbrev pub GivesEnd : Kind → Result (Option Value) Stop → Type 0
GivesEnd k (Ok end) = end_has k end ≡ true
GivesEnd k (Err why) = IsFault why

pub some_end : (k : Kind) (r : Result Value Stop) → GivesKind k r → GivesEnd k (r >>= λ v. Ok (Some v))
some_end k (Ok v) h = h
some_end k (Err why) h = h

-- ---- results of any type

-- what holds of a result, or a fault of the transaction
abbrev pub Of : {A : Type 0} → (A → Type 0) → Result A Stop → Type 0
Of P (Ok x) = P x
Of P (Err why) = IsFault why

pub cons_of : {A : Type 0} (P : A → Type 0) (r : Result A Stop) (rs : Result (List A) Stop) → Of P r → Of (AllByRecursion P) rs → Of (AllByRecursion P) (r >>= λ x. rs >>= λ xs. Ok (x ∷ xs))
cons_of P (Ok x) (Ok xs) h hs = (h, hs)
cons_of P (Ok x) (Err why) h hs = hs
cons_of P (Err why) rs h hs = h

placed_kind : (P : ℕ × Value → Type 0) (c : ℕ) (k : Kind) (r : Result Value Stop) → GivesKind k r → ((v : Value) → has_kind k v ≡ true → P (c, v)) → Of P (r >>= λ v. Ok (c, v))
placed_kind P c k (Ok v) h each = each v h
placed_kind P c k (Err why) h each = h

-- a value for a column that is there
pub change_kind : (P : ℕ × Value → Type 0) (place : Option ℕ) (c : ℕ) (k : Kind) (r : Result Value Stop) → place ≡ Some c → GivesKind k r → ((v : Value) → has_kind k v ≡ true → P (c, v))
    → Of P (found place >>= λ column. r >>= λ v. Ok (column, v))
change_kind P place c k r is h each = subst (λ o. Of P (found o >>= λ column. r >>= λ v. Ok (column, v))) (sym is) (placed_kind P c k r h each)
