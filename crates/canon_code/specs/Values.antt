-- The code of a value: a byte for its kind, and then the value.
use Rattle.std.specs.Prelude.{◌≡◌, ℕ, ℤ, List, [], ◌∷◌, Bool, true, false, cond, ◌==◌, Option, Some, None, FitsSigned}
use Rattle.std.specs.Int.{w64, cast_signed, cast_unsigned}
pub use Rattle.rel_base.specs.Reading.{is_text}
use Rattle.rel_base.specs.declared.value.Value.{Value}
use Rattle.rel_base.specs.declared.value.Value.TheVariants as value
use Rattle.rel_base.specs.Reading.{as_kind}
use Rattle.canon_code.specs.Codes.{be_code, short_code, HasShortCode}
use Rattle.canon_code.specs.Parts.{◌>>=◌, number_at, short_at}

-- ---- codes

-- an int in 8 bytes of two's complement
abbrev pub int_code : ℤ → List ℕ
int_code n = be_code w64 (cast_unsigned w64 n)

-- 0 for false and 1 for true
abbrev pub bool_code : Bool → List ℕ
bool_code b = cond b 1 0 ∷ []

-- 1 and an int, 2 and a text, 3 and a bool, 4 and bytes
abbrev pub value_code : Value → List ℕ
value_code (value.Int n) = 1 ∷ int_code n
value_code (value.Text t) = 2 ∷ short_code t
value_code (value.Bool b) = 3 ∷ bool_code b
value_code (value.Bytes b) = 4 ∷ short_code b

-- what the types promise of a value: an int has 64 bits, a text is one, bytes are few
abbrev pub HasValueCode : Value → Type 0
HasValueCode (value.Int n) = FitsSigned w64 n
HasValueCode (value.Text t) = is_text t ≡ true
HasValueCode (value.Bool b) = Unit {0}
HasValueCode (value.Bytes b) = HasShortCode b

-- ---- reading

-- an int
abbrev pub int_at : List ℕ → Option (ℤ × List ℕ)
int_at bytes = do
  n ← number_at w64 bytes
  Some (cast_signed w64 n.0, n.1)

-- a text
abbrev pub text_at : List ℕ → Option (List ℕ × List ℕ)
text_at bytes = do
  found ← short_at bytes
  cond (is_text found.0) (Some found) None

-- a bool
abbrev pub bool_at : List ℕ → Option (Bool × List ℕ)
bool_at [] = None
bool_at (b ∷ bytes) = cond (b == 0) (Some (false, bytes)) (cond (b == 1) (Some (true, bytes)) None)

-- the value at the start of the bytes, and what follows it
abbrev pub value_at : List ℕ → Option (Value × List ℕ)
value_at [] = None
value_at (kind ∷ bytes) =
    cond (kind == 1) (as_kind value.Int (int_at bytes))
    (cond (kind == 2) (as_kind value.Text (text_at bytes))
    (cond (kind == 3) (as_kind value.Bool (bool_at bytes))
    (cond (kind == 4) (as_kind value.Bytes (short_at bytes)) None)))
