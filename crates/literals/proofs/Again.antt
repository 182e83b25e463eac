-- What is written is read again, whatever follows it.
use Rattle.std.proofs.Common.{◌≡◌, ◌≤◌, ◌<◌, ◌+◌, ◌*◌, ◌/◌, ◌%◌, ◌^◌, ℕ, List, [], ◌∷◌, ◌++◌, Bool, true, false, cond, Some, None, length, drop, take, get_or, refl, ◌∙◌, ap, arith, append_assoc, ⊎_elim}
use Rattle.std.specs.Prelude.{◌==◌, ◌||◌, decimal, not}
use Rattle.std.specs.List.{flat_map, AllByRecursion}
use Rattle.std.specs.Option.{option_and_then}
use Rattle.std.specs.Char.{is_ascii_digit, digit_char}
use Rattle.std.proofs.lemmas.Bool.{le-leb, lt-ltb, not-true, and_parts, ne_eqb, cases_lt}
use Rattle.std.proofs.lemmas.Bool.Decides.{nat_tests}
use Rattle.std.proofs.lemmas.List.{take-append-le, drop-append-le, take_all, drop_all}
use Rattle.std.proofs.lemmas.Fmt.{digits_decimal, digits_value-decimal, decimal_nonempty, decimal_digit, first_decimal}
use Rattle.literals.specs.Laws.{starts_no_digit}
use Rattle.literals.proofs.Numerals.{own}
use Rattle.std.specs.Str.{all_ascii_digits}
use Rattle.literals.specs.Text.{quote, backslash, is_escaped, is_text, with_byte, quoted, escaped, where_text, text_at, quoted_byte, text_literal}
use Rattle.literals.specs.Bytes.{hex_value, with_pair, pairs, where_short, bytes_at, hex_pair, bytes_literal}
use Rattle.literals.specs.Number.{digits_len, is_canonical, number_after, number_of, where_u64, u64_at}

-- the last of three choices
pub third : {A : Type 0} (p q : Bool) (x y z : A) → (p || q) ≡ false → cond p x (cond q y z) ≡ z
third true q x y z e = cc
third false true x y z e = cc
third false false x y z e = refl

-- a byte as it stands between quotes
quoted_step : (b : ℕ) (bs : List ℕ) (test : Bool) → is_escaped b ≡ test → quoted (cond test (backslash ∷ b ∷ []) (b ∷ []) ++ bs) ≡ with_byte b (quoted bs)
quoted_step b bs true e = rw e refl
quoted_step b bs false e = third (b == quote) (b == backslash) (Some ([], bs)) (escaped bs) (with_byte b (quoted bs)) e

quoted_again : (text rest : List ℕ) → quoted (flat_map quoted_byte text ++ (quote ∷ rest)) ≡ Some (text, rest)
quoted_again [] rest = refl
quoted_again (b ∷ bs) rest =
    ap quoted (append_assoc (quoted_byte b) (flat_map quoted_byte bs) (quote ∷ rest))
    ∙ quoted_step b (flat_map quoted_byte bs ++ (quote ∷ rest)) (is_escaped b) refl
    ∙ ap (with_byte b) (quoted_again bs rest)

pub text_again : (text rest : List ℕ) → is_text text ≡ true → text_at (text_literal text ++ rest) ≡ Some (text, rest)
text_again text rest fine =
    ap (λ bytes. option_and_then where_text (quoted bytes)) (append_assoc (flat_map quoted_byte text) (quote ∷ []) rest)
    ∙ ap (option_and_then where_text) (quoted_again text rest)
    ∙ ap (λ test. cond test (Some (text, rest)) None) fine

hex_again : (d : ℕ) → d < 16 → hex_value (digit_char d) ≡ Some d
hex_again d low = grind (arith, nat_tests)

hex_no_quote : (d : ℕ) → d < 16 → (digit_char d == quote) ≡ false
hex_no_quote d low = grind (arith, nat_tests)

pairs_step : (b : ℕ) (bs : List ℕ) → b < 256 → pairs (hex_pair b ++ bs) ≡ with_byte b (pairs bs)
pairs_step b bs low =
    let high_low : b / 16 < 16 = omega arith in
    let rest_low : b % 16 < 16 = omega arith in
    let same : 16 * (b / 16) + b % 16 ≡ b = omega arith in
    ap (λ test. cond test (Some ([], digit_char (b % 16) ∷ bs)) (with_pair (hex_value (digit_char (b / 16))) (hex_value (digit_char (b % 16))) (pairs bs))) (hex_no_quote (b / 16) high_low)
    ∙ ap (λ high. with_pair high (hex_value (digit_char (b % 16))) (pairs bs)) (hex_again (b / 16) high_low)
    ∙ ap (λ low. with_pair (Some (b / 16)) low (pairs bs)) (hex_again (b % 16) rest_low)
    ∙ ap (λ byte. with_byte byte (pairs bs)) same

pairs_again : (bytes rest : List ℕ) → AllByRecursion (λ b. b < 256) bytes → pairs (flat_map hex_pair bytes ++ (quote ∷ rest)) ≡ Some (bytes, rest)
pairs_again [] [] low = refl
pairs_again [] (r ∷ rs) low = refl
pairs_again (b ∷ bs) rest low =
    ap pairs (append_assoc (hex_pair b) (flat_map hex_pair bs) (quote ∷ rest))
    ∙ pairs_step b (flat_map hex_pair bs ++ (quote ∷ rest)) low.0
    ∙ ap (with_byte b) (pairs_again bs rest low.1)

pub bytes_again : (bytes rest : List ℕ) → AllByRecursion (λ b. b < 256) bytes → length bytes ≤ 255 → bytes_at (bytes_literal bytes ++ rest) ≡ Some (bytes, rest)
bytes_again bytes rest low short =
    ap (λ bytes. option_and_then where_short (pairs bytes)) (append_assoc (flat_map hex_pair bytes) (quote ∷ []) rest)
    ∙ ap (option_and_then where_short) (pairs_again bytes rest low)
    ∙ ap (λ test. cond test (Some (bytes, rest)) None) (le-leb (length bytes) 255 short)

digits_stop : (bs : List ℕ) → starts_no_digit bs ≡ true → digits_len bs ≡ 0
digits_stop [] e = refl
digits_stop (b ∷ bs) e = ap (λ test. cond test (1 + digits_len bs) 0) (not-true (is_ascii_digit b) e)

digits_append : (ds rest : List ℕ) → all_ascii_digits ds ≡ true → starts_no_digit rest ≡ true → digits_len (ds ++ rest) ≡ length ds
digits_append [] rest all stop = digits_stop rest stop
digits_append (d ∷ ds) rest all stop =
    let parts = and_parts (is_ascii_digit d) (all_ascii_digits ds) all in
    let more : digits_len (ds ++ rest) ≡ length ds = digits_append ds rest parts.1 stop in
    ap (λ test. cond test (1 + digits_len (ds ++ rest)) 0) parts.0 ∙ omega (arith, more)

number_after_decimal : (n : ℕ) → n < 2 ^ 64 → (all_ascii_digits (decimal n) ≡ true) × (number_after 0 (decimal n) ≡ n)
number_after_decimal n low = (digits_decimal own n low, digits_value-decimal own n low)

canonical_from : (ds : List ℕ) → 0 < length ds → (get_or ds 0 0 ≡ 48 → length ds ≡ 1) → is_canonical ds ≡ true
canonical_from [] some one = absurd (omega (arith, some))
canonical_from (d ∷ []) some one = refl
canonical_from (d ∷ e ∷ ds) some one = ap not (ne_eqb d 48 (λ zero. omega (arith, one zero)))

-- the decimal of a number has no needless zero
pub canonical_decimal : (n : ℕ) → n < 2 ^ 64 → is_canonical (decimal n) ≡ true
canonical_decimal n low = canonical_from (decimal n) (decimal_nonempty n low) (λ zero. ⊎_elim (λ small. ap length (decimal_digit n small)) (λ large. absurd (omega (arith, zero, first_decimal n (omega (arith, large)) low))) (cases_lt n 10))

pub number_again : (n : ℕ) (rest : List ℕ) → n < 2 ^ 64 → starts_no_digit rest ≡ true → u64_at (decimal n ++ rest) ≡ Some (n, rest)
number_again n rest low stop =
    let told = number_after_decimal n low in
    let len : digits_len (decimal n ++ rest) ≡ length (decimal n) = digits_append (decimal n) rest told.0 stop in
    let front : take (digits_len (decimal n ++ rest)) (decimal n ++ rest) ≡ decimal n = ap (λ k. take k (decimal n ++ rest)) len ∙ take-append-le (length (decimal n)) (decimal n) rest (omega arith) ∙ take_all (length (decimal n)) (decimal n) (omega arith) in
    let back : drop (digits_len (decimal n ++ rest)) (decimal n ++ rest) ≡ rest = ap (λ k. drop k (decimal n ++ rest)) len ∙ drop-append-le (length (decimal n)) (decimal n) rest (omega arith) ∙ ap (λ xs. xs ++ rest) (drop_all (length (decimal n)) (decimal n) (omega arith)) in
    ap (λ ds. option_and_then where_u64 (number_of ds (drop (digits_len (decimal n ++ rest)) (decimal n ++ rest)))) front
    ∙ ap (λ xs. option_and_then where_u64 (number_of (decimal n) xs)) back
    ∙ ap (λ test. option_and_then where_u64 (cond test (Some (number_after 0 (decimal n), rest)) None)) (canonical_decimal n low)
    ∙ ap (λ m. where_u64 (m, rest)) told.1
    ∙ ap (λ test. cond test (Some (n, rest)) None) (lt-ltb n (2 ^ 64) low)
