-- Digits and the bytes that they spell.
use Rattle.std.proofs.Common.{◌≡◌, ℕ, zero, suc, List, [], ◌∷◌, Bool, true, false, cond, Some, None, refl, sym, ◌∙◌, ap, arith}
use Rattle.std.specs.Prelude.{Result, Ok, Err, not, slice_index, ◌==◌, ◌/◌, ◌%◌}
use Rattle.std.specs.List.{list_all}
use Rattle.std.specs.Str.{bytes_eq}
use Rattle.std.proofs.lemmas.Bool.{and_from, and_parts}
use Rattle.std.proofs.lemmas.Option.{same_Some}
use Rattle.hex.specs.Hex.{decode_of, decode_sized, encode_lower, encode_with, lower_digits}
use Rattle.hex.specs.declared.error.FromHexError.{FromHexError}
use Rattle.hex.proofs.HexLemmas.{decode_of-encode_lower, decode_of-ok, decode_sized-encode_lower, decode_sized-ok, decode_sized-twice}
use Rattle.rel_base.proofs.Bytes.{bytes_same, equal_bytes}
use Rattle.hex_digits.specs.Digits.{as_written}
use Rattle.hex_digits.specs.Laws.{BytesAreBytes, BytesComeBack, BytesHaveOneSpelling, HashesAreHashes, HashesComeBack, HashesHaveOneSpelling}

-- what is written is as it is written
written : (bytes : List ℕ) → as_written (encode_lower bytes) (Ok bytes) ≡ Some bytes
written bytes = ap (λ (same : Bool). cond same (Some bytes) None) (bytes_same (encode_lower bytes))

pub bytes_back : BytesComeBack
bytes_back bytes fine = ap (as_written (encode_lower bytes)) (decode_of-encode_lower bytes fine) ∙ written bytes

pub hash_back : HashesComeBack
hash_back hash fine = ap (as_written (encode_lower hash)) (decode_sized-encode_lower hash 32 fine.long fine.bytes) ∙ written hash

-- what a decoding gave
abbrev WasFound : Result (List ℕ) FromHexError → List ℕ → Type 0
WasFound found bytes = found ≡ Ok bytes

-- digits that are as what they spell is written
is_as_written : (digits : List ℕ) (found : Result (List ℕ) FromHexError) (bytes : List ℕ) → as_written digits found ≡ Some bytes → (found ≡ Ok bytes) × (digits ≡ encode_lower bytes)
is_as_written digits (Err fault) bytes e = absurd (cc)
is_as_written digits (Ok found) bytes e = by (bytes_eq (encode_lower found) digits) refl e
  where
    by : (same : Bool) → bytes_eq (encode_lower found) digits ≡ same → cond same (Some found) None ≡ Some bytes → WasFound (Ok found) bytes × (digits ≡ encode_lower bytes)
    by true same e = let own = same_Some found bytes e in (ap Ok own, sym (equal_bytes (encode_lower found) digits same) ∙ ap encode_lower own)
    by false same e = absurd (cc)

pub bytes_spelled : BytesHaveOneSpelling
bytes_spelled digits bytes e = (is_as_written digits (decode_of digits) bytes e).1

pub bytes_fine : BytesAreBytes
bytes_fine digits bytes e = (decode_of-ok digits bytes (is_as_written digits (decode_of digits) bytes e).0).3

pub hash_spelled : HashesHaveOneSpelling
hash_spelled digits hash e = (is_as_written digits (decode_sized digits 32) hash e).1

pub hash_fine : HashesAreHashes
hash_fine digits hash e =
    let found = (is_as_written digits (decode_sized digits 32) hash e).0 in
    let long = decode_sized-ok digits 32 hash found in
    let told = decode_of-ok digits hash (sym (decode_sized-twice digits 32 long) ∙ found) in
    let twice = told.2 in
    record { long = omega (arith, long, twice); bytes = told.3 }

-- digits are no newlines
no_newline_at : (table : List ℕ) (i : ℕ) → list_all (λ b. not (b == 10)) table ≡ true → not (slice_index table i == 10) ≡ true
no_newline_at [] i all = refl
no_newline_at (b ∷ table) zero all = (and_parts (not (b == 10)) (list_all (λ b. not (b == 10)) table) all).0
no_newline_at (b ∷ table) (suc i) all = no_newline_at table i (and_parts (not (b == 10)) (list_all (λ b. not (b == 10)) table) all).1

pub digits_plain : (bytes : List ℕ) → list_all (λ b. not (b == 10)) (encode_lower bytes) ≡ true
unfolding encode_with
digits_plain [] = refl
digits_plain (b ∷ bytes) =
    and_from (not (slice_index lower_digits (b / 16) == 10)) _ (no_newline_at lower_digits (b / 16) refl)
    (and_from (not (slice_index lower_digits (b % 16) == 10)) _ (no_newline_at lower_digits (b % 16) refl) (digits_plain bytes))
