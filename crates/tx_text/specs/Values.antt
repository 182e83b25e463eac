-- Values as text.
use Rattle.std.specs.Prelude.{◌≡◌, ◌<◌, ◌≤◌, ℕ, ℤ, pos, negsuc, List, [], ◌∷◌, ◌-◌, ◌^◌, length, Bool, true, false, cond, ◌&&◌, ◌||◌, ◌==◌, nat_le, nat_lt, Option, Some, None, codes}
use Rattle.std.specs.List.{AllByRecursion}
use Rattle.std.specs.Fmt.{signed_decimal}
use Rattle.std.specs.Option.{option_and_then, option_map, option_or}
use Rattle.rel_base.specs.declared.value.Value.{Value}
use Rattle.rel_base.specs.declared.value.Value.TheVariants as value
use Rattle.rel_base.specs.Reading.{as_kind}
use Rattle.literals.specs.Text.{quote, is_text, text_at, text_literal}
use Rattle.literals.specs.Bytes.{letter_x, bytes_at, bytes_literal}
use Rattle.literals.specs.Number.{u64_at}
use Rattle.tx_text.specs.Fields.{after}

-- a number as an int of 64 bits
abbrev pub plain_int : ℕ → Option ℤ
plain_int n = cond (nat_lt n (2 ^ 63)) (Some (pos n)) None

-- a number with a minus before it as such an int; 0 has none
abbrev pub minus_int : ℕ → Option ℤ
minus_int n = cond (nat_lt 0 n && nat_le n (2 ^ 63)) (Some (negsuc (n - 1))) None

-- either, of a number that was found
abbrev pub int_of : (ℕ → Option ℤ) → ℕ × List ℕ → Option (ℤ × List ℕ)
int_of sign found = option_map (λ z. (z, found.1)) (sign found.0)

-- `-`
abbrev pub minus : ℕ
minus = 45

-- an int in canonical decimal, with `-` before a number that is not 0
abbrev pub int_at : List ℕ → Option (ℤ × List ℕ)
int_at [] = None
int_at (b ∷ bs) = cond (b == minus) (option_and_then (int_of minus_int) (u64_at bs)) (option_and_then (int_of plain_int) (u64_at (b ∷ bs)))

-- a bool, and what follows it
abbrev pub flag : Bool → List ℕ → Bool × List ℕ
flag b rest = (b, rest)

-- `true` or `false`
abbrev pub bool_at : List ℕ → Option (Bool × List ℕ)
bool_at bytes = option_or (option_map (flag true) (after (codes "true") bytes)) (option_map (flag false) (after (codes "false") bytes))

-- the value at the start of the bytes, and what follows it; the first byte says its kind
abbrev pub value_at : List ℕ → Option (Value × List ℕ)
value_at [] = None
value_at (b ∷ bs) =
    cond (b == quote) (as_kind value.Text (text_at (b ∷ bs)))
    (cond (b == letter_x) (as_kind value.Bytes (bytes_at (b ∷ bs)))
    (cond (b == 116 || b == 102) (as_kind value.Bool (bool_at (b ∷ bs)))
    (as_kind value.Int (int_at (b ∷ bs)))))

-- what was found, where nothing follows it
abbrev pub alone : {A : Type 0} → A × List ℕ → Option A
alone (found, []) = Some found
alone (found, b ∷ bs) = None

-- the value that the bytes spell, all of them
abbrev pub value_of : List ℕ → Option Value
value_of bytes = option_and_then alone (value_at bytes)

-- a value as it is written
abbrev pub value_text : Value → List ℕ
value_text (value.Int n) = signed_decimal n
value_text (value.Text t) = text_literal t
value_text (value.Bool b) = cond b (codes "true") (codes "false")
value_text (value.Bytes b) = bytes_literal b

-- what the code's types promise of a value: an int has 64 bits, a text is one, bytes are few
abbrev pub IsValue : Value → Type 0
IsValue (value.Int (pos n)) = n < 2 ^ 63
IsValue (value.Int (negsuc n)) = n < 2 ^ 63
IsValue (value.Text t) = is_text t ≡ true
IsValue (value.Bool b) = Unit {0}
IsValue (value.Bytes b) = AllByRecursion (λ byte. byte < 256) b × (length b ≤ 255)
