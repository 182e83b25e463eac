-- The parts that all codes share: numbers of fixed width, bytes after their length, and lists after their count.
use Rattle.std.specs.Prelude.{◌<◌, ◌≤◌, ◌++◌, ℕ, List, [], ◌∷◌, length, get_or}
use Rattle.std.specs.Int.{Width, to_be_bytes}
use Rattle.std.specs.List.{flat_map, AllByRecursion}

-- each is a byte
abbrev pub AreBytes : List ℕ → Type 0
AreBytes bytes = (i : ℕ) → get_or bytes i 0 < 256

-- a number in bytes of fixed width, the high ones first
abbrev pub be_code : Width → ℕ → List ℕ
be_code width n = to_be_bytes width n

-- a number below 256 in one byte
abbrev pub byte_code : ℕ → List ℕ
byte_code n = n ∷ []

-- bytes after one byte, which is their length
abbrev pub short_code : List ℕ → List ℕ
short_code bytes = length bytes ∷ bytes

-- at most 255 bytes
abbrev pub HasShortCode : List ℕ → Type 0
HasShortCode bytes = AreBytes bytes × (length bytes ≤ 255)

-- items after their count
abbrev pub counted : {A : Type 0} → (ℕ → List ℕ) → (A → List ℕ) → List A → List ℕ
counted count item items = count (length items) ++ flat_map item items

-- at most so many items, each with a code
abbrev pub HasCounted : {A : Type 0} → ℕ → (A → Type 0) → List A → Type 0
HasCounted most HasCode items = (length items ≤ most) × AllByRecursion HasCode items
