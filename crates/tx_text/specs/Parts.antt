-- The lines of a file.
use Rattle.std.specs.Prelude.{◌≡◌, ◌<◌, ℕ, List, [], ◌∷◌, ◌++◌, length, Bool, ◌==◌, nat_lt, Option, Some, None}
use Rattle.std.specs.List.{slice_split}
use denote.Bor.{Bor}

-- the byte that ends a line
abbrev pub is_newline : ℕ → Bool
is_newline b = b == 10

-- what stands before the first newline, between two of them, and after the last
abbrev pub parts_of : List ℕ → List (List ℕ)
parts_of bytes = slice_split is_newline bytes

-- bytes before the first of some parts, as the last line of a piece goes on with the next piece
abbrev pub onto : List ℕ → List (List ℕ) → List (List ℕ)
onto bytes [] = bytes ∷ []
onto bytes (part ∷ parts) = (bytes ++ part) ∷ parts

-- a line and its newline
abbrev pub line_text : List ℕ → List ℕ
line_text line = line ++ (10 ∷ [])

-- the most bytes of a line, its newline left out
abbrev pub most_line_bytes : ℕ
most_line_bytes = 4096

-- a line has no more
abbrev pub is_long : List ℕ → Bool
is_long line = nat_lt most_line_bytes (length line)

-- the first part, and the bytes of the others; or the only part
abbrev pub SplitsLine : Option (Bor (List ℕ) × Bor (List ℕ)) → List ℕ → Type 0
SplitsLine None bytes = parts_of bytes ≡ bytes ∷ []
SplitsLine (Some split) bytes = parts_of bytes ≡ split.0.now ∷ parts_of split.1.now

-- fewer bytes are left
abbrev pub IsShorter : Option (Bor (List ℕ) × Bor (List ℕ)) → List ℕ → Type 0
IsShorter None bytes = Unit {0}
IsShorter (Some split) bytes = length split.1.now < length bytes
