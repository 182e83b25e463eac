-- Bytes as lower-case hexadecimal digits, two for each byte, the high four bits first.
use Rattle.hex.specs.Hex.{decode_of, decode_sized, encode_lower}
use Rattle.hex.specs.declared.error.FromHexError.{FromHexError}
use Rattle.std.specs.Prelude.{Err, List, None, Ok, Option, Result, Some, cond, ℕ}
use Rattle.std.specs.Str.{bytes_eq}

-- what was found for digits, where these are the digits in which it is written: of digits in either case, the lower
abbrev pub as_written : List ℕ → Result (List ℕ) FromHexError → Option (List ℕ)
as_written digits (Err fault) = None
as_written digits (Ok bytes) = cond (bytes_eq (encode_lower bytes) digits) (Some bytes) None

-- the bytes that digits spell
abbrev pub bytes_of : List ℕ → Option (List ℕ)
bytes_of digits = as_written digits (decode_of digits)

-- the 32 bytes that 64 digits spell
abbrev pub hash_of : List ℕ → Option (List ℕ)
hash_of digits = as_written digits (decode_sized digits 32)
