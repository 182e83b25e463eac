-- What is written is read back.
use Rattle.std.specs.Prelude.{◌≡◌, ◌≤◌, ◌<◌, ◌^◌, ◌++◌, ℕ, List, [], ◌∷◌, length, Bool, true, not, Some, decimal}
use Rattle.std.specs.Char.{is_ascii_digit}
use Rattle.std.specs.List.{AllByRecursion}
use Rattle.literals.specs.Text.{is_text, text_at, text_literal}
use Rattle.literals.specs.Bytes.{bytes_at, bytes_literal}
use Rattle.literals.specs.Number.{u64_at}

-- a text, whatever follows it
abbrev pub TextsComeBack : Type 0
TextsComeBack = (text rest : List ℕ) → is_text text ≡ true → text_at (text_literal text ++ rest) ≡ Some (text, rest)

-- a byte string, whatever follows it
abbrev pub BytesComeBack : Type 0
BytesComeBack = (bytes rest : List ℕ) → AllByRecursion (λ b. b < 256) bytes → length bytes ≤ 255 → bytes_at (bytes_literal bytes ++ rest) ≡ Some (bytes, rest)

-- no digit stands first
abbrev pub starts_no_digit : List ℕ → Bool
starts_no_digit [] = true
starts_no_digit (b ∷ bs) = not (is_ascii_digit b)

-- a number, where no digit follows it
abbrev pub NumbersComeBack : Type 0
NumbersComeBack = (n : ℕ) (rest : List ℕ) → n < 2 ^ 64 → starts_no_digit rest ≡ true → u64_at (decimal n ++ rest) ≡ Some (n, rest)

-- And what is read was written so, each byte of it: a text has one spelling,
abbrev pub TextsHaveOneSpelling : Type 0
TextsHaveOneSpelling = (bytes text rest : List ℕ) → text_at bytes ≡ Some (text, rest) → bytes ≡ text_literal text ++ rest

-- and so has a byte string,
abbrev pub BytesHaveOneSpelling : Type 0
BytesHaveOneSpelling = (bytes found rest : List ℕ) → bytes_at bytes ≡ Some (found, rest) → bytes ≡ bytes_literal found ++ rest

-- and a number
abbrev pub NumbersHaveOneSpelling : Type 0
NumbersHaveOneSpelling = (bytes : List ℕ) (n : ℕ) (rest : List ℕ) → u64_at bytes ≡ Some (n, rest) → bytes ≡ decimal n ++ rest
