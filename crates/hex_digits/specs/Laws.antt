-- What is written is read back, and what is read was written so.
use Rattle.hex.specs.Hex.{IsBytes, encode_lower}
use Rattle.hex_digits.specs.Digits.{bytes_of, hash_of}
use Rattle.std.specs.Prelude.{List, Some, length, ◌≡◌, ℕ}

abbrev pub BytesComeBack : Type 0
BytesComeBack = (bytes : List ℕ) → IsBytes bytes → bytes_of (encode_lower bytes) ≡ Some bytes

abbrev pub BytesHaveOneSpelling : Type 0
BytesHaveOneSpelling = (digits bytes : List ℕ) → bytes_of digits ≡ Some bytes → digits ≡ encode_lower bytes

abbrev pub BytesAreBytes : Type 0
BytesAreBytes = (digits bytes : List ℕ) → bytes_of digits ≡ Some bytes → IsBytes bytes

-- 32 bytes, each below 256
pub record IsHash (hash : List ℕ) : Type 0 where
  pub long : length hash ≡ 32
  pub bytes : IsBytes hash

abbrev pub HashesComeBack : Type 0
HashesComeBack = (hash : List ℕ) → IsHash hash → hash_of (encode_lower hash) ≡ Some hash

abbrev pub HashesHaveOneSpelling : Type 0
HashesHaveOneSpelling = (digits hash : List ℕ) → hash_of digits ≡ Some hash → digits ≡ encode_lower hash

abbrev pub HashesAreHashes : Type 0
HashesAreHashes = (digits hash : List ℕ) → hash_of digits ≡ Some hash → IsHash hash
