-- Marks of keys by a hash. A mark stands at the place of each key that was ever put in, so a key without one was not.
use Rattle.std.specs.Prelude.{◌%◌, ◌*◌, ◌+◌, ◌/◌, ◌==◌, ◌^◌, ◌||◌, ℕ, Bool, List, Option, None, Some, bit_xor, cond, fold, length, slice_get, true, unsigned_abs}
use Rattle.rel_base.specs.declared.value.Value.TheVariants.{Bool as Answer, Bytes, Int, Text}
use Rattle.rel_base.specs.declared.value.Value.{Value}

-- a hash with a number more. The factor is 2 ^ 64 over the golden ratio (Knuth, The Art of Computer Programming, vol. 3, section 6.4)
abbrev pub mix : ℕ → ℕ → ℕ
mix hash number = bit_xor hash number * 11400714819323198485 % 2 ^ 64

-- a hash with a value more: with its number, its bytes, or 1 for true and 0 for false
unfoldable pub mix_value : ℕ → Value → ℕ
mix_value hash (Int number) = mix hash (unsigned_abs number)
mix_value hash (Text bytes) = fold mix hash bytes
mix_value hash (Answer answer) = mix hash (cond answer 1 0)
mix_value hash (Bytes bytes) = fold mix hash bytes

-- the hash of a key
abbrev pub key_hash : List Value → ℕ
key_hash key = fold mix_value 0 key

-- the place of a hash among some: its upper half is taken as a part of one, of which the places are the whole
unfoldable pub place_of : ℕ → ℕ → ℕ
place_of hash count = hash / 2 ^ 32 * count % 2 ^ 64 / 2 ^ 32

-- the mark of a hash, from 1 to 128
unfoldable pub mark_of : ℕ → ℕ
mark_of hash = hash / 2 ^ 24 % 128 + 1

-- the mark of a place to which keys with different marks lead
abbrev pub several : ℕ
several = 255

-- whether a key with a mark may lead to a place, by the mark of the place
abbrev pub allows : Option ℕ → ℕ → Bool
allows None mark = true
allows (Some own) mark = own == several || own == mark

-- whether a key with a hash may be one of those that were put in
abbrev pub may_be_in : List ℕ → ℕ → Bool
may_be_in marks hash = allows (slice_get marks (place_of hash (length marks))) (mark_of hash)
