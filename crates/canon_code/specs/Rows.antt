-- The code of a row, and of a key: one byte for the number of its values, and their codes.
use Rattle.std.specs.Prelude.{ℕ, List, Option}
use Rattle.rel_base.specs.declared.value.Value.{Value}
use Rattle.canon_code.specs.Codes.{byte_code, counted, HasCounted}
use Rattle.canon_code.specs.Parts.{byte_at, counted_at}
use Rattle.canon_code.specs.Values.{value_code, HasValueCode, value_at}

abbrev pub row_code : List Value → List ℕ
row_code row = counted byte_code value_code row

-- a key is coded as a row
abbrev pub key_code : List Value → List ℕ
key_code key = row_code key

-- there are at most 32 values
abbrev pub HasRowCode : List Value → Type 0
HasRowCode row = HasCounted 32 HasValueCode row

-- the row at the start of the bytes, and what follows it
abbrev pub row_at : List ℕ → Option (List Value × List ℕ)
row_at bytes = counted_at byte_at 32 value_at bytes
