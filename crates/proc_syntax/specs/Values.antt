-- What the operators of expressions give.
use Rattle.std.specs.Prelude.{ℕ, ◌^◌, Bool, true, false, not, cond, List, ◌++◌, length, Result, Ok, Err, Option, Some, None, ℤ, pos, negsuc, ◌+ℤ◌, ◌-ℤ◌, ◌*ℤ◌, neg_ℤ, int_div, int_rem, nat_lt, nat_le}
use Rattle.std.specs.declared.cmp.Ordering.{Ordering}
use Rattle.std.specs.Cmp.Lexicographic.{pointwise}
use Rattle.std.specs.Ordering.{int_eq, is_eq, is_ne, is_lt, is_le, is_gt, is_ge}
use Rattle.rel_base.specs.declared.value.Kind.{Kind}
use Rattle.rel_base.specs.declared.value.Kind.TheVariants as kind
use Rattle.rel_base.specs.declared.value.Value.{Value}
use Rattle.rel_base.specs.declared.value.Value.TheVariants as value
use Rattle.rel_base.specs.Value.{value_cmp, kind_of}
use Rattle.proc_syntax.specs.declared.fault.Fault.TheVariants as fault
use Rattle.proc_syntax.specs.declared.run.Stop.{Stop}
use Rattle.proc_syntax.specs.declared.run.Stop.TheVariants as stop
use Rattle.proc_syntax.specs.declared.tree.Op.{Op}
use Rattle.proc_syntax.specs.declared.tree.Op.TheVariants as op

-- what comes of a result, where the run does not stop with it
infixl 10 ◌>>=◌
abbrev pub ◌>>=◌ : {A B : Type 0} → Result A Stop → (A → Result B Stop) → Result B Stop
(Ok x) >>= f = f x
(Err e) >>= f = Err e

-- what is found; where there is nothing, the procedure is not well typed
abbrev pub found : {A : Type 0} → Option A → Result A Stop
found None = Err stop.IllTyped
found (Some x) = Ok x

-- ---- kinds

abbrev pub has_kind : Kind → Value → Bool
has_kind kind.Int (value.Int n) = true
has_kind kind.Text (value.Text t) = true
has_kind kind.Bool (value.Bool b) = true
has_kind kind.Bytes (value.Bytes b) = true
has_kind k v = false

-- whether there is one value of each kind, in order
abbrev pub have_kinds : List Kind → List Value → Bool
have_kinds kinds values = pointwise has_kind kinds values

-- ---- numbers

-- whether a number fits 64 bits with a sign
abbrev pub fits_64 : ℤ → Bool
fits_64 (pos n) = nat_lt n (2 ^ 63)
fits_64 (negsuc n) = nat_lt n (2 ^ 63)

-- a number outside 64 bits is an overflow
abbrev pub number : ℤ → Result Value Stop
number n = cond (fits_64 n) (Ok (value.Int n)) (Err (stop.Fault fault.Overflow))

-- division by 0 has no quotient; else it is truncated toward 0
abbrev pub quotient : ℤ → ℤ → Result Value Stop
quotient a b = cond (int_eq b (pos 0)) (Err (stop.Fault fault.ZeroDivide)) (number (int_div a b))

abbrev pub negation_of : Value → Result Value Stop
negation_of (value.Int a) = number (neg_ℤ a)
negation_of v = Err stop.IllTyped

-- ---- texts

-- a text has at most 255 bytes
abbrev pub text : List ℕ → Result Value Stop
text bytes = cond (nat_le (length bytes) 255) (Ok (value.Text bytes)) (Err (stop.Fault fault.TextTooLong))

-- ---- tests

abbrev pub flag_of : Value → Result Bool Stop
flag_of (value.Bool b) = Ok b
flag_of v = Err stop.IllTyped

abbrev pub not_of : Value → Result Value Stop
not_of v = flag_of v >>= λ b. Ok (value.Bool (not b))

-- values of one kind, compared by their order
abbrev pub compared : (Ordering → Bool) → Value → Value → Result Value Stop
compared test a b = cond (has_kind (kind_of a) b) (Ok (value.Bool (test (value_cmp a b)))) (Err stop.IllTyped)

-- the right side has its turn only where the left one does not decide
abbrev pub and_of : Value → Result Value Stop → Result Value Stop
and_of left right = flag_of left >>= λ b. cond b (right >>= λ v. flag_of v >>= λ c. Ok (value.Bool c)) (Ok (value.Bool false))

abbrev pub or_of : Value → Result Value Stop → Result Value Stop
or_of left right = flag_of left >>= λ b. cond b (Ok (value.Bool true)) (right >>= λ v. flag_of v >>= λ c. Ok (value.Bool c))

-- an operator of two values; what a division leaves has the sign of the dividend, and overflows where the quotient does
abbrev pub two_of : Op → Value → Value → Result Value Stop
two_of op.Or a b = or_of a (Ok b)
two_of op.And a b = and_of a (Ok b)
two_of op.Eq a b = compared is_eq a b
two_of op.Ne a b = compared is_ne a b
two_of op.Lt a b = compared is_lt a b
two_of op.Le a b = compared is_le a b
two_of op.Gt a b = compared is_gt a b
two_of op.Ge a b = compared is_ge a b
two_of op.Add (value.Int a) (value.Int b) = number (a +ℤ b)
two_of op.Sub (value.Int a) (value.Int b) = number (a -ℤ b)
two_of op.Mul (value.Int a) (value.Int b) = number (a *ℤ b)
two_of op.Div (value.Int a) (value.Int b) = quotient a b
two_of op.Rem (value.Int a) (value.Int b) = quotient a b >>= λ q. Ok (value.Int (int_rem a b))
two_of op.Join (value.Text a) (value.Text b) = text (a ++ b)
two_of o a b = Err stop.IllTyped

-- an operator of a value and what the right side gives
abbrev pub apply : Op → Value → Result Value Stop → Result Value Stop
apply op.Or left right = or_of left right
apply op.And left right = and_of left right
apply o left right = right >>= λ v. two_of o left v
