-- The place of a key among 1,024, by a hash in which each number is mixed by a multiplication. The factor is 2 ^ 64 over the golden ratio
-- (Knuth, The Art of Computer Programming, vol. 3, section 6.4).
use Rattle.rel_base.specs.declared.value.Value.TheVariants.{Bool, Bytes, Int, Text}
use Rattle.rel_base.specs.declared.value.Value.{Value}
use Rattle.std.specs.Prelude.{List, bit_xor, cond, fold, unsigned_abs, ◌%◌, ◌*◌, ◌/◌, ◌^◌, ℕ}

-- a hash with a number more
abbrev pub mix : ℕ → ℕ → ℕ
mix hash number = bit_xor hash number * 11400714819323198485 % 2 ^ 64

-- a hash with a value more: with its number, its bytes, or 1 for true and 0 for false
unfoldable pub mix_value : ℕ → Value → ℕ
mix_value hash (Int number) = mix hash (unsigned_abs number)
mix_value hash (Text bytes) = fold mix hash bytes
mix_value hash (Bool answer) = mix hash (cond answer 1 0)
mix_value hash (Bytes bytes) = fold mix hash bytes

-- the place of a key of a table, below 1,024: the highest ten bits of the hash of its values and the number of the table
unfoldable pub key_place : ℕ → List Value → ℕ
key_place table key = mix (fold mix_value 0 key) table / 2 ^ 54

-- the hash of a value of a table, below 256: the highest eight bits
unfoldable pub value_hash : ℕ → Value → ℕ
value_hash table value = mix (mix_value 0 value) table / 2 ^ 56
