-- How the parts that all codes share are read from the start of some bytes: the part, and the bytes after it.
use Rattle.std.specs.Prelude.{ℕ, zero, suc, List, [], ◌∷◌, length, take, drop, cond, nat_lt, nat_le, Option, Some, None}
use Rattle.std.specs.Int.{Width, byte_len, from_be_bytes}

-- one part after another
infixl 10 ◌>>=◌
abbrev pub ◌>>=◌ : {A B : Type 0} → Option A → (A → Option B) → Option B
None >>= f = None
(Some x) >>= f = f x

-- a number of fixed width
abbrev pub number_at : Width → List ℕ → Option (ℕ × List ℕ)
number_at width bytes =
    cond (nat_lt (length bytes) (byte_len width)) None (Some (from_be_bytes width (take (byte_len width) bytes), drop (byte_len width) bytes))

-- a number of one byte
abbrev pub byte_at : List ℕ → Option (ℕ × List ℕ)
byte_at [] = None
byte_at (b ∷ bytes) = Some (b, bytes)

-- so many bytes
abbrev pub parted : ℕ → List ℕ → Option (List ℕ × List ℕ)
parted len bytes = cond (nat_lt (length bytes) len) None (Some (take len bytes, drop len bytes))

-- bytes after their length
abbrev pub short_at : List ℕ → Option (List ℕ × List ℕ)
short_at [] = None
short_at (len ∷ bytes) = parted len bytes

-- so many items, each read in one way
abbrev pub items_at : {A : Type 0} → (List ℕ → Option (A × List ℕ)) → ℕ → List ℕ → Option (List A × List ℕ)
items_at item zero bytes = Some ([], bytes)
items_at item (suc n) bytes = do
  first ← item bytes
  others ← items_at item n first.1
  Some (first.0 ∷ others.0, others.1)

-- items after their count, of which there are at most so many
abbrev pub counted_at : {A : Type 0} → (List ℕ → Option (ℕ × List ℕ)) → ℕ → (List ℕ → Option (A × List ℕ)) → List ℕ → Option (List A × List ℕ)
counted_at count most item bytes = do
  n ← count bytes
  cond (nat_le n.0 most) (items_at item n.0 n.1) None
