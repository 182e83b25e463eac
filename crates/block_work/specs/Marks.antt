-- Marks of ids: a set of bits that has the bit of each id that was put in, by a hash of the id (Bloom, CACM 13(7), 1970, with one hash).
use Rattle.rw_graph.specs.Sets.{is_one}
use Rattle.std.specs.BTreeMap.{is_at}
use Rattle.std.specs.Hash.FoldHasher.{finish, initial, write}
use Rattle.std.specs.Cmp.Lexicographic.{slice_cmp}
use Rattle.std.specs.Map.{lookup}
use Rattle.std.specs.Ordering.{nat_cmp}
use Rattle.std.specs.Prelude.{Bool, List, Option, is_some, length, slice_index, true, ◌%◌, ◌/◌, ◌^◌, ◌≡◌, ℕ}

-- a hash of an id
abbrev pub hash_of : List ℕ → ℕ
hash_of id = finish (write initial id)

-- whether an id has its mark: the hash names the word, and the bit of the word by the six highest bits of the hash
abbrev pub has_mark : List ℕ → List ℕ → Bool
has_mark words id = is_one (slice_index words (hash_of id % length words)) (hash_of id / 2 ^ 58)

-- each id that had its mark has it
abbrev pub KeepsMarks : List ℕ → List ℕ → Type 0
KeepsMarks old new = (id : List ℕ) → has_mark old id ≡ true → has_mark new id ≡ true

-- the value of an id among some ids with a value each
abbrev pub value_of : {X : Type 0} → List (List ℕ × X) → List ℕ → Option X
value_of values id = lookup (is_at (slice_cmp nat_cmp id)) values

-- each id that has a value has its mark
abbrev pub AreMarked : {X : Type 0} → List (List ℕ × X) → List ℕ → Type 0
AreMarked values words = (id : List ℕ) → is_some (value_of values id) ≡ true → has_mark words id ≡ true
