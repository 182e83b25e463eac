-- What the readers between quotes meet, one part at a time.
use Rattle.std.specs.Prelude.{ℕ, List, [], ◌<◌, ◌++◌, length, Option, Some, None}
use Rattle.literals.specs.declared.part.Part.{Part}
use Rattle.literals.specs.declared.part.Part.TheVariants as part
use Rattle.literals.specs.Text.{quoted, with_byte}
use Rattle.literals.specs.Bytes.{pairs}

-- what a text in quotes is, if this is what stands first
abbrev pub read_on : Part → Option (List ℕ × List ℕ)
read_on (part.Close rest) = Some ([], rest.now)
read_on (part.Byte b rest) = with_byte b (quoted rest.now)
read_on part.Bad = None

-- fewer bytes follow a byte
abbrev pub IsShorter : Part → ℕ → Type 0
IsShorter (part.Close rest) n = Unit {0}
IsShorter (part.Byte b rest) n = length rest.now < n
IsShorter part.Bad n = Unit {0}

-- more bytes before what is found
abbrev pub with_front : List ℕ → Option (List ℕ × List ℕ) → Option (List ℕ × List ℕ)
with_front bytes None = None
with_front bytes (Some found) = Some (bytes ++ found.0, found.1)

-- and what a byte string is
abbrev pub read_pairs_on : Part → Option (List ℕ × List ℕ)
read_pairs_on (part.Close rest) = Some ([], rest.now)
read_pairs_on (part.Byte b rest) = with_byte b (pairs rest.now)
read_pairs_on part.Bad = None
