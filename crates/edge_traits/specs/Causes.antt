-- Counts of failed calls, and leave to read.
use Rattle.std.specs.Prelude.{ℕ, ◌<◌, ◌≤◌, ◌+◌, ◌-◌, ◌^◌, min, List}

-- A count raised by one. It stops at the greatest number of 64 bits.
abbrev pub raised : ℕ → ℕ
raised count = min (count + 1) (2 ^ 64 - 1)

-- A count rose, or it stands where it stops.
abbrev pub Rose : ℕ → ℕ → Type 0
Rose before now = raised before ≤ now

-- A count for each name, which is given as its bytes.
abbrev pub Counts : Type 0
Counts = List ℕ → ℕ

-- No name's count fell.
abbrev pub NoneFell : Counts → Counts → Type 0
NoneFell before now = (name : List ℕ) → before name ≤ now name

-- Which bytes may be asked for: of a name, from a place on, so many.
abbrev pub Leave : Type 1
Leave = List ℕ → ℕ → ℕ → Type 0

-- What could be asked for before can still be asked for.
abbrev pub Keeps : Leave → Leave → Type 0
Keeps before now = (name : List ℕ) (at size : ℕ) → before name at size → now name at size

-- How many bytes of a file are asked for at once.
abbrev pub piece_bytes : ℕ
piece_bytes = 65536

-- The first bytes of a file, `most` of them, may be read to their end: at each place before it, all that are left, yet at most a
-- piece at once.
abbrev pub AllowsFront : Leave → List ℕ → ℕ → Type 0
AllowsFront may_read name most = (at : ℕ) → at < most → may_read name at (min piece_bytes (most - at))
