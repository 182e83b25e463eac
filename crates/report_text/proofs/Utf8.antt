-- The texts that are written are UTF-8.
use Rattle.std.proofs.Common.{◌≡◌, ◌<◌, ◌≤◌, ◌^◌, ◌++◌, ◌∙◌, ap, ap₂, sym, subst, ℕ, suc, pos, negsuc, List, [], ◌∷◌, true, false, refl, inl, inr, arith}
use Rattle.std.specs.Prelude.{◌&&◌, ◌/◌, ◌%◌, nat_le, nat_lt, decimal, length}
use Rattle.std.specs.Char.{digit_char}
use Rattle.std.specs.List.{AllByRecursion, flat_map, list_all}
use Rattle.std.specs.Str.{IsAscii, IsUtf8, is_utf8}
use Rattle.std.proofs.lemmas.Bool.{and_parts, cases_eq, leb-true, ltb-true, ne_eqb}
use Rattle.std.proofs.lemmas.Bool.Decides.{nat_tests}
use Rattle.std.proofs.lemmas.Fmt.{IsAscii-decimal}
use Rattle.std.proofs.lemmas.Str.{IsAscii-append, IsUtf8-append, IsUtf8-from_ascii, IsUtf8-from_is_utf8}
use Rattle.std.proofs.lemmas.Str.Ascii.{IsAscii-nil, IsAscii-cons}
use Rattle.json.specs.Print.{escape_byte}
use Rattle.json.proofs.Printed.Strings.{escape_byte_plain}
use Rattle.json.proofs.Printed.Utf8.{IsUtf8-are_ascii, IsUtf8-quoted}
use Rattle.hex.specs.Hex.{encode_lower, lower_digits}
use Rattle.hex.proofs.HexLemmas.{IsAscii-encode_with}
use Rattle.literals.specs.Bytes.{bytes_literal, hex_pair}
use Rattle.literals.specs.Text.{quoted_byte, text_literal}
use Rattle.rel_base.specs.Text.{has_no_control}
use Rattle.rel_base.specs.declared.value.Value.{Value}
use Rattle.rel_base.specs.declared.value.Value.TheVariants as value
use Rattle.tx_text.specs.Values.{IsValue, value_text}

-- a text with another at its end
pub utf8_pushed : (new old text : List ℕ) → new ≡ old ++ text → IsUtf8 old → IsUtf8 text → IsUtf8 new
utf8_pushed new old text same first second = subst IsUtf8 (sym same) (IsUtf8-append old text first second)

pub utf8_number : (n : ℕ) → n < 2 ^ 64 → IsUtf8 (decimal n)
utf8_number n low = IsUtf8-from_ascii (decimal n) (IsAscii-decimal n low)

-- a byte that is no control character stands between quotes as JSON has it
byte_plain : (b : ℕ) → (b ≡ 34 → ⊥) → (b ≡ 92 → ⊥) → quoted_byte b ≡ b ∷ []
byte_plain b no_quote no_slash = rw (ne_eqb b 34 no_quote, ne_eqb b 92 no_slash) refl

byte_quote : quoted_byte 34 ≡ escape_byte 34
unfolding escape_byte
byte_quote = refl

byte_slash : quoted_byte 92 ≡ escape_byte 92
unfolding escape_byte
byte_slash = refl

byte_same : (b : ℕ) → 32 ≤ b → quoted_byte b ≡ escape_byte b
byte_same b high = elim (cases_eq b 34) [
  | inl same ↦ rw same byte_quote
  | inr no_quote ↦ elim (cases_eq b 92) [
    | inl same ↦ rw same byte_slash
    | inr no_slash ↦ byte_plain b no_quote no_slash ∙ sym (escape_byte_plain b no_quote no_slash high)
  ]
]

inside_same : (text : List ℕ) → has_no_control text ≡ true → flat_map quoted_byte text ≡ flat_map escape_byte text
inside_same [] plain = refl
inside_same (b ∷ bs) plain =
    let parts = and_parts (nat_le 32 b) (has_no_control bs) plain in
    ap₂ (λ (front rest : List ℕ). front ++ rest) (byte_same b (leb-true 32 b parts.0)) (inside_same bs parts.1)

pub utf8_literal : (text : List ℕ) → has_no_control text ≡ true → IsUtf8 text → IsUtf8 (text_literal text)
utf8_literal text plain utf8 = subst IsUtf8 (ap (λ inside. 34 ∷ (inside ++ 34 ∷ [])) (sym (inside_same text plain))) (IsUtf8-quoted text utf8)

digit_ascii : (d : ℕ) → d < 16 → digit_char d < 128
digit_ascii d low = grind (arith, nat_tests)

pairs_ascii : (bytes : List ℕ) → AllByRecursion (λ byte. byte < 256) bytes → IsAscii (flat_map hex_pair bytes)
pairs_ascii [] low = IsAscii-nil
pairs_ascii (b ∷ bs) low =
    IsAscii-cons (digit_char (b / 16)) (digit_char (b % 16) ∷ flat_map hex_pair bs) (digit_ascii (b / 16) (omega (arith, low.0)))
    (IsAscii-cons (digit_char (b % 16)) (flat_map hex_pair bs) (digit_ascii (b % 16) (omega arith)) (pairs_ascii bs low.1))

bytes_ascii : (bytes : List ℕ) → AllByRecursion (λ byte. byte < 256) bytes → IsAscii (bytes_literal bytes)
bytes_ascii bytes low =
    let close = IsAscii-append (flat_map hex_pair bytes) (34 ∷ []) (pairs_ascii bytes low) (IsAscii-cons 34 [] (omega arith) IsAscii-nil) in
    IsAscii-cons 120 (34 ∷ (flat_map hex_pair bytes ++ 34 ∷ [])) (omega arith) (IsAscii-cons 34 (flat_map hex_pair bytes ++ 34 ∷ []) (omega arith) close)

pub utf8_value : (v : Value) → IsValue v → IsUtf8 (value_text v)
utf8_value (value.Int (pos n)) fine = utf8_number n (omega (arith, fine))
utf8_value (value.Int (negsuc n)) fine = IsUtf8-append (45 ∷ []) (decimal (suc n)) (IsUtf8-are_ascii (45 ∷ []) refl) (utf8_number (suc n) (omega (arith, fine)))
utf8_value (value.Text text) fine =
    let parts = and_parts (is_utf8 text) (nat_le (length text) 255 && has_no_control text) fine in
    utf8_literal text (and_parts (nat_le (length text) 255) (has_no_control text) parts.1).1 (IsUtf8-from_is_utf8 text parts.0)
utf8_value (value.Bool true) fine = IsUtf8-are_ascii _ refl
utf8_value (value.Bool false) fine = IsUtf8-are_ascii _ refl
utf8_value (value.Bytes bytes) fine = IsUtf8-from_ascii (bytes_literal bytes) (bytes_ascii bytes fine.0)

-- bytes that are all below 128
low_ascii : (bytes : List ℕ) → list_all (λ byte. nat_lt byte 128) bytes ≡ true → IsAscii bytes
low_ascii [] low = IsAscii-nil
low_ascii (b ∷ bs) low = let parts = and_parts (nat_lt b 128) (list_all (λ byte. nat_lt byte 128) bs) low in IsAscii-cons b bs (ltb-true b 128 parts.0) (low_ascii bs parts.1)

pub utf8_digits : (digest : List ℕ) → IsUtf8 (encode_lower digest)
utf8_digits digest = IsUtf8-from_ascii (encode_lower digest) (IsAscii-encode_with lower_digits digest (low_ascii lower_digits refl))
