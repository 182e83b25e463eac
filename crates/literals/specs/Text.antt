-- Texts in quotes.
use Rattle.std.specs.Prelude.{ℕ, List, [], ◌∷◌, ◌++◌, Bool, cond, ◌||◌, ◌==◌, Option, Some, None}
use Rattle.std.specs.List.{flat_map}
use Rattle.std.specs.Option.{option_and_then}
pub use Rattle.rel_base.specs.Reading.{is_text}

-- `"`
abbrev pub quote : ℕ
quote = 34

-- `\`
abbrev pub backslash : ℕ
backslash = 92

-- a backslash stands before a quote and before itself, and before nothing else
abbrev pub is_escaped : ℕ → Bool
is_escaped b = b == quote || b == backslash

-- one more byte before what was found
abbrev pub with_byte : ℕ → Option (List ℕ × List ℕ) → Option (List ℕ × List ℕ)
with_byte b None = None
with_byte b (Some found) = Some (b ∷ found.0, found.1)

abbrev mutual
  -- the bytes up to the next quote, without their escapes, and what follows the quote
  pub quoted : List ℕ → Option (List ℕ × List ℕ)
  quoted [] = None
  quoted (b ∷ bs) = cond (b == quote) (Some ([], bs)) (cond (b == backslash) (escaped bs) (with_byte b (quoted bs)))

  -- the same after a backslash
  pub escaped : List ℕ → Option (List ℕ × List ℕ)
  escaped [] = None
  escaped (b ∷ bs) = cond (is_escaped b) (with_byte b (quoted bs)) None

-- what was found, where it is a text
abbrev pub where_text : List ℕ × List ℕ → Option (List ℕ × List ℕ)
where_text found = cond (is_text found.0) (Some found) None

-- the text in quotes at the start of the bytes, and what follows it
abbrev pub text_at : List ℕ → Option (List ℕ × List ℕ)
text_at [] = None
text_at (b ∷ bs) = cond (b == quote) (option_and_then where_text (quoted bs)) None

-- a byte of a text, as it stands between quotes
abbrev pub quoted_byte : ℕ → List ℕ
quoted_byte b = cond (is_escaped b) (backslash ∷ b ∷ []) (b ∷ [])

-- a text in quotes
abbrev pub text_literal : List ℕ → List ℕ
text_literal text = quote ∷ flat_map quoted_byte text ++ (quote ∷ [])
