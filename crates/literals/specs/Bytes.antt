-- Byte strings in hexadecimal.
use Rattle.std.specs.Prelude.{ℕ, List, [], ◌∷◌, ◌++◌, ◌+◌, ◌-◌, ◌*◌, ◌/◌, ◌%◌, length, cond, ◌&&◌, ◌==◌, nat_le, Option, Some, None}
use Rattle.std.specs.Char.{is_ascii_digit, digit_char}
use Rattle.std.specs.List.{flat_map}
use Rattle.std.specs.Option.{option_and_then}
use Rattle.literals.specs.Text.{quote, with_byte}

-- what a digit `0` to `9` or `a` to `f` stands for
abbrev pub hex_value : ℕ → Option ℕ
hex_value b = cond (is_ascii_digit b) (Some (b - 48)) (cond (nat_le 97 b && nat_le b 102) (Some (b - 87)) None)

-- the byte of two digits before what was found
abbrev pub with_pair : Option ℕ → Option ℕ → Option (List ℕ × List ℕ) → Option (List ℕ × List ℕ)
with_pair None low found = None
with_pair (Some high) None found = None
with_pair (Some high) (Some low) found = with_byte (16 * high + low) found

-- the bytes of the pairs of digits up to the next quote, and what follows the quote
abbrev pub pairs : List ℕ → Option (List ℕ × List ℕ)
pairs [] = None
pairs (a ∷ []) = cond (a == quote) (Some ([], [])) None
pairs (a ∷ b ∷ bs) = cond (a == quote) (Some ([], b ∷ bs)) (with_pair (hex_value a) (hex_value b) (pairs bs))

-- what was found, where it has at most 255 bytes
abbrev pub where_short : List ℕ × List ℕ → Option (List ℕ × List ℕ)
where_short found = cond (nat_le (length found.0) 255) (Some found) None

-- `x`
abbrev pub letter_x : ℕ
letter_x = 120

-- the bytes that the prefix of the bytes spells, as `x"00ff"`, and what follows it
abbrev pub bytes_at : List ℕ → Option (List ℕ × List ℕ)
bytes_at [] = None
bytes_at (a ∷ []) = None
bytes_at (a ∷ b ∷ bs) = cond (a == letter_x && b == quote) (option_and_then where_short (pairs bs)) None

-- the two digits of a byte
abbrev pub hex_pair : ℕ → List ℕ
hex_pair b = digit_char (b / 16) ∷ digit_char (b % 16) ∷ []

-- a byte string, as `x"00ff"`
abbrev pub bytes_literal : List ℕ → List ℕ
bytes_literal bytes = letter_x ∷ quote ∷ flat_map hex_pair bytes ++ (quote ∷ [])
