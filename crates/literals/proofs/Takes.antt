-- What is read was written so: each literal has one spelling.
use Rattle.std.proofs.Common.{◌≡◌, ◌≤◌, ◌<◌, ◌+◌, ◌-◌, ◌*◌, ◌/◌, ◌%◌, ◌^◌, ℕ, suc, List, [], ◌∷◌, ◌++◌, Bool, true, false, cond, Option, Some, None, length, drop, take, get_or, refl, sym, ◌∙◌, ap, subst, arith, append_assoc}
use Rattle.std.specs.Prelude.{◌==◌, ◌&&◌, ◌||◌, nat_le, nat_lt, decimal}
use Rattle.std.specs.List.{flat_map}
use Rattle.std.specs.Option.{option_and_then}
use Rattle.std.specs.Char.{is_ascii_digit, digit_char}
use Rattle.std.specs.Str.{all_ascii_digits}
use Rattle.std.proofs.lemmas.Bool.{leb-true, ltb-true, eqb-true, eqb-false, lt-ltb, le-ltb, not-true, false≢true, and_parts, and_from}
use Rattle.std.proofs.lemmas.Option.{same_Some, none-some}
use Rattle.std.proofs.lemmas.List.{take-append-drop}
use Rattle.std.proofs.lemmas.Fmt.{decimal-digits_value}
use Rattle.literals.specs.Text.{quote, backslash, is_escaped, is_text, with_byte, quoted, escaped, where_text, text_at, quoted_byte, text_literal}
use Rattle.literals.specs.Bytes.{letter_x, hex_value, with_pair, pairs, where_short, bytes_at, hex_pair, bytes_literal}
use Rattle.literals.specs.Number.{digits_len, is_canonical, number_after, where_u64, u64_at}
use Rattle.literals.proofs.Numerals.{own}

-- the bytes are the spelling of what was found up to a quote, the quote, and what was left
abbrev Spelled : (ℕ → List ℕ) → List ℕ → Option (List ℕ × List ℕ) → Type 0
Spelled spelling bytes None = Unit {0}
Spelled spelling bytes (Some found) = bytes ≡ flat_map spelling found.0 ++ (quote ∷ found.1)

spelled_byte : (spelling : ℕ → List ℕ) (b : ℕ) (front bytes : List ℕ) (found : Option (List ℕ × List ℕ)) → front ≡ spelling b → Spelled spelling bytes found → Spelled spelling (front ++ bytes) (with_byte b found)
spelled_byte spelling b front bytes None e h = tt
spelled_byte spelling b front bytes (Some found) e h =
    ap (λ xs. xs ++ bytes) e ∙ ap (λ xs. spelling b ++ xs) h ∙ sym (append_assoc (spelling b) (flat_map spelling found.0) (quote ∷ found.1))

-- a byte in quotes: the closing quote, a backslash, or another
choice : (b : ℕ) (bs : List ℕ) (p q : Bool) → (b == quote) ≡ p → (b == backslash) ≡ q → Spelled quoted_byte (backslash ∷ bs) (escaped bs) → Spelled quoted_byte bs (quoted bs)
    → Spelled quoted_byte (b ∷ bs) (cond p (Some ([], bs)) (cond q (escaped bs) (with_byte b (quoted bs))))
choice b bs true q ep eq he hq = ap (λ x. x ∷ bs) (eqb-true b quote ep)
choice b bs false true ep eq he hq = subst (λ (x : ℕ). Spelled quoted_byte (x ∷ bs) (escaped bs)) (sym (eqb-true b backslash eq)) he
choice b bs false false ep eq he hq =
    let plain : is_escaped b ≡ false = ap (λ t. t || (b == backslash)) ep ∙ eq in
    spelled_byte quoted_byte b (b ∷ []) bs (quoted bs) (sym (ap (λ t. cond t (backslash ∷ b ∷ []) (b ∷ [])) plain)) hq

after_backslash : (b : ℕ) (bs : List ℕ) (test : Bool) → is_escaped b ≡ test → Spelled quoted_byte bs (quoted bs) → Spelled quoted_byte (backslash ∷ b ∷ bs) (cond test (with_byte b (quoted bs)) None)
after_backslash b bs true e h = spelled_byte quoted_byte b (backslash ∷ b ∷ []) bs (quoted bs) (sym (ap (λ t. cond t (backslash ∷ b ∷ []) (b ∷ [])) e)) h
after_backslash b bs false e h = tt

mutual
  quoted_takes : (bs : List ℕ) → Spelled quoted_byte bs (quoted bs)
  quoted_takes [] = tt
  quoted_takes (b ∷ bs) = choice b bs (b == quote) (b == backslash) refl refl (escaped_takes bs) (quoted_takes bs)

  escaped_takes : (bs : List ℕ) → Spelled quoted_byte (backslash ∷ bs) (escaped bs)
  escaped_takes [] = tt
  escaped_takes (b ∷ bs) = after_backslash b bs (is_escaped b) refl (quoted_takes bs)

-- the literal of what was found, and what was left
abbrev pub IsLiteral : {A : Type 0} → (A → List ℕ) → (A → Type 0) → List ℕ → Option (A × List ℕ) → Type 0
IsLiteral literal Fine bytes None = Unit {0}
IsLiteral literal Fine bytes (Some found) = (bytes ≡ literal found.0 ++ found.1) × Fine found.0

abbrev pub IsText : List ℕ → Type 0
IsText text = is_text text ≡ true

where_takes : (bs : List ℕ) (found : List ℕ × List ℕ) (test : Bool) → is_text found.0 ≡ test → bs ≡ flat_map quoted_byte found.0 ++ (quote ∷ found.1)
    → IsLiteral text_literal IsText (quote ∷ bs) (cond test (Some found) None)
where_takes bs found true e h = (ap (λ xs. quote ∷ xs) (h ∙ sym (append_assoc (flat_map quoted_byte found.0) (quote ∷ []) found.1)), e)
where_takes bs found false e h = tt

found_takes : (bs : List ℕ) (found : Option (List ℕ × List ℕ)) → Spelled quoted_byte bs found → IsLiteral text_literal IsText (quote ∷ bs) (option_and_then where_text found)
found_takes bs None h = tt
found_takes bs (Some found) h = where_takes bs found (is_text found.0) refl h

text_begins : (b : ℕ) (bs : List ℕ) (test : Bool) → (b == quote) ≡ test → IsLiteral text_literal IsText (b ∷ bs) (cond test (option_and_then where_text (quoted bs)) None)
text_begins b bs true e = subst (λ (x : ℕ). IsLiteral text_literal IsText (x ∷ bs) (option_and_then where_text (quoted bs))) (sym (eqb-true b quote e)) (found_takes bs (quoted bs) (quoted_takes bs))
text_begins b bs false e = tt

pub text_takes : (bs : List ℕ) → IsLiteral text_literal IsText bs (text_at bs)
text_takes [] = tt
text_takes (b ∷ bs) = text_begins b bs (b == quote) refl

-- a digit is that of its value
digit_takes : (d : ℕ) (test high : Bool) → is_ascii_digit d ≡ test → (nat_le 97 d && nat_le d 102) ≡ high
    → (v : ℕ) → cond test (Some (d - 48)) (cond high (Some (d - 87)) None) ≡ Some v → (digit_char v ≡ d) × (v < 16)
digit_takes d true high e h v given =
    let parts = and_parts (nat_le 48 d) (nat_le d 57) e in
    let low : 48 ≤ d = leb-true 48 d parts.0 in
    let up : d ≤ 57 = leb-true d 57 parts.1 in
    let is : d - 48 ≡ v = same_Some (d - 48) v given in
    let small : v < 10 = omega (arith, low, up, is) in
    (ap (λ t. cond t (48 + v) (87 + v)) (lt-ltb v 10 small) ∙ omega (arith, low, is), omega (arith, small))
digit_takes d false true e h v given =
    let parts = and_parts (nat_le 97 d) (nat_le d 102) h in
    let low : 97 ≤ d = leb-true 97 d parts.0 in
    let up : d ≤ 102 = leb-true d 102 parts.1 in
    let is : d - 87 ≡ v = same_Some (d - 87) v given in
    let large : 10 ≤ v = omega (arith, low, is) in
    (ap (λ t. cond t (48 + v) (87 + v)) (le-ltb v 10 large) ∙ omega (arith, low, is), omega (arith, up, is))
digit_takes d false false e h v given = absurd (none-some v given)

hex_takes : (d v : ℕ) → hex_value d ≡ Some v → (digit_char v ≡ d) × (v < 16)
hex_takes d v = digit_takes d (is_ascii_digit d) (nat_le 97 d && nat_le d 102) refl refl v

-- two digits are those of their byte
pair_front : (a b high low : ℕ) → digit_char high ≡ a → high < 16 → digit_char low ≡ b → low < 16 → a ∷ b ∷ [] ≡ hex_pair (16 * high + low)
pair_front a b high low ea ha eb hb =
    let one : (16 * high + low) / 16 ≡ high = omega (arith, ha, hb) in
    let two : (16 * high + low) % 16 ≡ low = omega (arith, ha, hb) in
    sym (ap (λ x. digit_char x ∷ digit_char ((16 * high + low) % 16) ∷ []) one ∙ ap (λ y. digit_char high ∷ digit_char y ∷ []) two ∙ ap (λ x. x ∷ digit_char low ∷ []) ea ∙ ap (λ y. a ∷ y ∷ []) eb)

pair_takes : (a b : ℕ) (bs : List ℕ) (high low : Option ℕ) → hex_value a ≡ high → hex_value b ≡ low → Spelled hex_pair bs (pairs bs) → Spelled hex_pair (a ∷ b ∷ bs) (with_pair high low (pairs bs))
pair_takes a b bs None low ea eb h = tt
pair_takes a b bs (Some high) None ea eb h = tt
pair_takes a b bs (Some high) (Some low) ea eb h =
    let one = hex_takes a high ea in
    let two = hex_takes b low eb in
    spelled_byte hex_pair (16 * high + low) (a ∷ b ∷ []) bs (pairs bs) (pair_front a b high low one.0 one.1 two.0 two.1) h

pair_choice : (a b : ℕ) (bs : List ℕ) (test : Bool) → (a == quote) ≡ test → Spelled hex_pair bs (pairs bs)
    → Spelled hex_pair (a ∷ b ∷ bs) (cond test (Some ([], b ∷ bs)) (with_pair (hex_value a) (hex_value b) (pairs bs)))
pair_choice a b bs true e h = ap (λ x. x ∷ b ∷ bs) (eqb-true a quote e)
pair_choice a b bs false e h = pair_takes a b bs (hex_value a) (hex_value b) refl refl h

last_choice : (a : ℕ) (test : Bool) → (a == quote) ≡ test → Spelled hex_pair (a ∷ []) (cond test (Some ([], [])) None)
last_choice a true e = ap (λ x. x ∷ []) (eqb-true a quote e)
last_choice a false e = tt

pairs_takes : (bs : List ℕ) → Spelled hex_pair bs (pairs bs)
pairs_takes [] = tt
pairs_takes (a ∷ []) = last_choice a (a == quote) refl
pairs_takes (a ∷ b ∷ bs) = pair_choice a b bs (a == quote) refl (pairs_takes bs)

abbrev pub IsShort : List ℕ → Type 0
IsShort bytes = length bytes ≤ 255

short_takes : (bs : List ℕ) (found : List ℕ × List ℕ) (test : Bool) → nat_le (length found.0) 255 ≡ test → bs ≡ flat_map hex_pair found.0 ++ (quote ∷ found.1)
    → IsLiteral bytes_literal IsShort (letter_x ∷ quote ∷ bs) (cond test (Some found) None)
short_takes bs found true e h = (ap (λ xs. letter_x ∷ quote ∷ xs) (h ∙ sym (append_assoc (flat_map hex_pair found.0) (quote ∷ []) found.1)), leb-true (length found.0) 255 e)
short_takes bs found false e h = tt

blob_takes : (bs : List ℕ) (found : Option (List ℕ × List ℕ)) → Spelled hex_pair bs found → IsLiteral bytes_literal IsShort (letter_x ∷ quote ∷ bs) (option_and_then where_short found)
blob_takes bs None h = tt
blob_takes bs (Some found) h = short_takes bs found (nat_le (length found.0) 255) refl h

bytes_begin : (a b : ℕ) (bs : List ℕ) (test : Bool) → (a == letter_x && b == quote) ≡ test → IsLiteral bytes_literal IsShort (a ∷ b ∷ bs) (cond test (option_and_then where_short (pairs bs)) None)
bytes_begin a b bs true e =
    let parts = and_parts (a == letter_x) (b == quote) e in
    subst (λ (x : ℕ). IsLiteral bytes_literal IsShort (x ∷ b ∷ bs) (option_and_then where_short (pairs bs))) (sym (eqb-true a letter_x parts.0))
    (subst (λ (y : ℕ). IsLiteral bytes_literal IsShort (letter_x ∷ y ∷ bs) (option_and_then where_short (pairs bs))) (sym (eqb-true b quote parts.1)) (blob_takes bs (pairs bs) (pairs_takes bs)))
bytes_begin a b bs false e = tt

pub bytes_takes : (bs : List ℕ) → IsLiteral bytes_literal IsShort bs (bytes_at bs)
bytes_takes [] = tt
bytes_takes (a ∷ []) = tt
bytes_takes (a ∷ b ∷ bs) = bytes_begin a b bs (a == letter_x && b == quote) refl

-- the run of digits has digits alone, and a canonical one is what `decimal` writes
run_more : (b : ℕ) (bs : List ℕ) (n : ℕ) (test : Bool) → is_ascii_digit b ≡ test → all_ascii_digits (take n bs) ≡ true → all_ascii_digits (take (cond test (1 + n) 0) (b ∷ bs)) ≡ true
run_more b bs n true e h =
    let one : 1 + n ≡ suc n = omega arith in
    ap (λ k. all_ascii_digits (take k (b ∷ bs))) one ∙ and_from (is_ascii_digit b) (all_ascii_digits (take n bs)) e h
run_more b bs n false e h = refl

run_digits : (bs : List ℕ) → all_ascii_digits (take (digits_len bs) bs) ≡ true
run_digits [] = refl
run_digits (b ∷ bs) = run_more b bs (digits_len bs) (is_ascii_digit b) refl (run_digits bs)

canonical_some : (ds : List ℕ) → is_canonical ds ≡ true → 0 < length ds
canonical_some [] e = absurd (false≢true e)
canonical_some (d ∷ ds) e = omega arith

canonical_zero : (ds : List ℕ) → is_canonical ds ≡ true → get_or ds 0 0 ≡ 48 → length ds ≡ 1
canonical_zero [] e zero = absurd (false≢true e)
canonical_zero (d ∷ []) e zero = refl
canonical_zero (d ∷ x ∷ ds) e zero = absurd (eqb-false d 48 (not-true (d == 48) e) zero)

abbrev pub IsU64 : ℕ → Type 0
IsU64 n = n < 2 ^ 64

small_takes : (ds rest : List ℕ) (test : Bool) → nat_lt (number_after 0 ds) (2 ^ 64) ≡ test → all_ascii_digits ds ≡ true → is_canonical ds ≡ true
    → IsLiteral decimal IsU64 (ds ++ rest) (cond test (Some (number_after 0 ds, rest)) None)
small_takes ds rest true e all canonical =
    let small : number_after 0 ds < 2 ^ 64 = ltb-true (number_after 0 ds) (2 ^ 64) e in
    (ap (λ xs. xs ++ rest) (sym (decimal-digits_value own ds all (canonical_some ds canonical) (canonical_zero ds canonical) small)), small)
small_takes ds rest false e all canonical = tt

number_takes : (ds rest : List ℕ) (test : Bool) → is_canonical ds ≡ test → all_ascii_digits ds ≡ true → IsLiteral decimal IsU64 (ds ++ rest) (option_and_then where_u64 (cond test (Some (number_after 0 ds, rest)) None))
number_takes ds rest true e all = small_takes ds rest (nat_lt (number_after 0 ds) (2 ^ 64)) refl all e
number_takes ds rest false e all = tt

pub u64_takes : (bs : List ℕ) → IsLiteral decimal IsU64 bs (u64_at bs)
u64_takes bs = subst (λ (xs : List ℕ). IsLiteral decimal IsU64 xs (u64_at bs)) (take-append-drop (digits_len bs) bs)
    (number_takes (take (digits_len bs) bs) (drop (digits_len bs) bs) (is_canonical (take (digits_len bs) bs)) refl (run_digits bs))
