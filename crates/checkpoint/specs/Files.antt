-- Digest files: `digests 1` or `heads 1`, and then a line `H HEX` for each block, where H counts from 1.
use Rattle.checkpoint.specs.declared.files.DigestFault.{DigestFault}
use Rattle.checkpoint.specs.declared.files.DigestFault.TheVariants as fault
use Rattle.hex.specs.Hex.{encode_lower}
use Rattle.hex_digits.specs.Digits.{hash_of}
use Rattle.std.specs.Option.{option_and_then}
use Rattle.std.specs.Prelude.{Bool, Err, List, None, Ok, Option, Result, Some, [], codes, cond, decimal, length, nat_le, ◌+◌, ◌++◌, ◌==◌, ◌∷◌, ◌≡◌, ℕ}
use Rattle.std.specs.Str.{bytes_eq}
use Rattle.tx_text.specs.Fields.{after}
use Rattle.tx_text.specs.Parts.{line_text, parts_of}

-- the first line: whether the file has heads, or digests
abbrev pub header_of : Bool → List ℕ
header_of heads = cond heads (codes "heads 1") (codes "digests 1")

-- ---- as they are written

-- the line of a height
abbrev pub digest_text : ℕ → List ℕ → List ℕ
digest_text height digest = decimal height ++ codes " " ++ encode_lower digest

-- the lines of digests from a height on
abbrev pub lines_from : ℕ → List (List ℕ) → List ℕ
lines_from height [] = []
lines_from height (digest ∷ digests) = line_text (digest_text height digest) ++ lines_from (height + 1) digests

abbrev pub digest_file : Bool → List (List ℕ) → List ℕ
digest_file heads digests = line_text (header_of heads) ++ lines_from 1 digests

-- ---- as they are read

-- a file tells of at most so many blocks
abbrev pub most_digests : ℕ
most_digests = 1000000

-- the digest after the number of a height
abbrev pub numbered_digest : ℕ → List ℕ → Option (List ℕ)
numbered_digest height line = option_and_then (λ rest. option_and_then hash_of (after (codes " ") rest)) (after (decimal height) line)

-- the digest that the line of a height spells
abbrev pub digest_at : ℕ → List ℕ → Option (List ℕ)
digest_at height line = cond (nat_le height most_digests) (numbered_digest height line) None

-- a digest before others
abbrev pub before : List (List ℕ) → Result (List (List ℕ)) ℕ → Result (List (List ℕ)) ℕ
before digests (Err line) = Err line
before digests (Ok others) = Ok (digests ++ others)

-- the digest of a height, and those that follow; or the fault of its line, which is one further, after the header
abbrev pub onward : ℕ → Option (List ℕ) → Result (List (List ℕ)) ℕ → Result (List (List ℕ)) ℕ
onward height None others = Err (height + 1)
onward height (Some digest) others = before (digest ∷ []) others

-- nothing stands after the last newline
abbrev pub ended : ℕ → List ℕ → Result (List (List ℕ)) ℕ
ended height rest = cond (length rest == 0) (Ok []) (Err (height + 1))

-- the digests of the lines from a height on, or the number of the first line that is not one
abbrev pub digests_from : ℕ → List (List ℕ) → Result (List (List ℕ)) ℕ
digests_from height [] = ended height []
digests_from height (rest ∷ []) = ended height rest
digests_from height (line ∷ part ∷ parts) = onward height (digest_at height line) (digests_from (height + 1) (part ∷ parts))

-- and those of a file
abbrev pub digests_in : List (List ℕ) → Result (List (List ℕ)) ℕ
digests_in [] = Err 1
digests_in (rest ∷ []) = Err 1
digests_in (line ∷ part ∷ parts) = cond (bytes_eq line (codes "digests 1")) (digests_from 1 (part ∷ parts)) (Err 1)

-- the digests of a whole file, or the number of its first bad line
abbrev pub digests_of : List ℕ → Result (List (List ℕ)) ℕ
digests_of bytes = digests_in (parts_of bytes)

-- the digests, or the first bad line, exactly where that is meant, unless memory ran out
abbrev pub Gives : Result (List (List ℕ)) DigestFault → Result (List (List ℕ)) ℕ → Type 0
Gives (Ok digests) meant = meant ≡ Ok digests
Gives (Err fault.NoMemory) meant = Unit {0}
Gives (Err (fault.Bad line)) meant = meant ≡ Err line
