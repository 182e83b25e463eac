-- The code of a write is bytes.
use Rattle.std.proofs.Common.{◌≡◌, ◌≤◌, ◌<◌, ◌+◌, ℕ, zero, suc, List, [], ◌∷◌, ◌++◌, Bool, true, false, cond, Option, Some, None, length, refl, subst, arith}
use Rattle.std.specs.Prelude.{nat_le, nat_lt, ◌&&◌, ◌/◌, ◌%◌}
use Rattle.std.specs.Char.{encode_utf8}
use Rattle.std.specs.Int.{cast_unsigned, to_be_bytes, w32, w64}
use Rattle.std.specs.List.{AllByRecursion, flat_map}
use Rattle.std.specs.Str.{encode_utf8_all, is_utf8}
use Rattle.std.proofs.Math.Utf8.{scalars}
use Rattle.std.proofs.lemmas.Bool.{and_parts, leb-true, ltb-true}
use Rattle.std.proofs.lemmas.Str.{IsUtf8-from_is_utf8}
use Rattle.canon_code.specs.Codes.{AreBytes}
use Rattle.canon_code.specs.Rows.{HasRowCode, row_code}
use Rattle.canon_code.specs.Values.{HasValueCode, is_text, value_code}
use Rattle.canon_code.specs.Writes.{HasChangeCode, HasWriteCode, change_code, head_code, write_code}
use Rattle.hex.specs.Hex.{IsBytes}
use Rattle.rel_base.specs.declared.access.Placed.{Placed}
use Rattle.rel_base.specs.declared.value.Value.{Value}
use Rattle.rel_base.specs.declared.value.Value.TheVariants as value

abbrev Below : List ℕ → Type 0
Below bytes = AllByRecursion (λ b. b < 256) bytes

joined : (xs ys : List ℕ) → Below xs → Below ys → Below (xs ++ ys)
joined [] ys left right = right
joined (x ∷ xs) ys left right = (left.0, joined xs ys left.1 right)

bytes_from : (xs : List ℕ) → Below xs → IsBytes xs
bytes_from [] low i = omega arith
bytes_from (x ∷ xs) low zero = low.0
bytes_from (x ∷ xs) low (suc i) = bytes_from xs low.1 i

below_from : (xs : List ℕ) → AreBytes xs → Below xs
below_from [] low = tt
below_from (x ∷ xs) low = (low 0, below_from xs (λ i. low (suc i)))

-- numbers
four : (n : ℕ) → Below (to_be_bytes w32 n)
four n = (omega arith, (omega arith, (omega arith, (omega arith, tt))))

eight : (n : ℕ) → Below (to_be_bytes w64 n)
eight n = (omega arith, (omega arith, (omega arith, (omega arith, (omega arith, (omega arith, (omega arith, (omega arith, tt))))))))

-- texts
char_by : (c : ℕ) (one two three : Bool) → nat_lt c 128 ≡ one → nat_lt c 2048 ≡ two → nat_lt c 65536 ≡ three → c < 1114112
    → Below (cond one (c ∷ []) (cond two ((192 + c / 64) ∷ (128 + c % 64) ∷ []) (cond three ((224 + c / 4096) ∷ (128 + c / 64 % 64) ∷ (128 + c % 64) ∷ [])
    ((240 + c / 262144) ∷ (128 + c / 4096 % 64) ∷ (128 + c / 64 % 64) ∷ (128 + c % 64) ∷ []))))
char_by c true two three one_is two_is three_is low = let small = ltb-true c 128 one_is in (omega (arith, small), tt)
char_by c false true three one_is two_is three_is low = let small = ltb-true c 2048 two_is in (omega (arith, small), (omega arith, tt))
char_by c false false true one_is two_is three_is low = let small = ltb-true c 65536 three_is in (omega (arith, small), (omega arith, (omega arith, tt)))
char_by c false false false one_is two_is three_is low = (omega (arith, low), (omega arith, (omega arith, (omega arith, tt))))

char_below : (c : ℕ) → c < 1114112 → Below (encode_utf8 c)
unfolding encode_utf8
char_below c low = char_by c (nat_lt c 128) (nat_lt c 2048) (nat_lt c 65536) refl refl refl low

scalar_low : (c : ℕ) (low middle high : Bool) → nat_lt c 55296 ≡ low → nat_le 57344 c ≡ middle → nat_lt c 1114112 ≡ high → cond low true (middle && high) ≡ true → c < 1114112
scalar_low c true middle high low_is middle_is high_is e = let small = ltb-true c 55296 low_is in omega (arith, small)
scalar_low c false true true low_is middle_is high_is e = ltb-true c 1114112 high_is
scalar_low c false true false low_is middle_is high_is e = absurd (cc)
scalar_low c false false high low_is middle_is high_is e = absurd (cc)

chars_below : (cs : List ℕ) → scalars cs ≡ true → Below (encode_utf8_all cs)
chars_below [] fine = tt
chars_below (c ∷ cs) fine =
    let parts = and_parts (cond (nat_lt c 55296) true (nat_le 57344 c && nat_lt c 1114112)) (scalars cs) fine in
    joined (encode_utf8 c) (encode_utf8_all cs) (char_below c (scalar_low c (nat_lt c 55296) (nat_le 57344 c) (nat_lt c 1114112) refl refl refl parts.0)) (chars_below cs parts.1)

text_below : (text : List ℕ) → is_text text ≡ true → Below text × (length text ≤ 255)
text_below text fine =
    let parts = and_parts (is_utf8 text) _ fine in
    let utf8 = IsUtf8-from_is_utf8 text parts.0 in
    (subst Below utf8.1.1 (chars_below utf8.0 utf8.1.0), leb-true (length text) 255 (and_parts (nat_le (length text) 255) _ parts.1).0)

-- values, rows and changes
bool_below : (b : Bool) → cond b 1 0 < 256
bool_below true = omega arith
bool_below false = omega arith

value_below : (v : Value) → HasValueCode v → Below (value_code v)
value_below (value.Int n) has = (omega arith, eight (cast_unsigned w64 n))
value_below (value.Text t) has = let fine = text_below t has in let short = fine.1 in (omega arith, (omega (arith, short), fine.0))
value_below (value.Bool b) has = (omega arith, (bool_below b, tt))
value_below (value.Bytes b) has = let short = has.1 in (omega arith, (omega (arith, short), below_from b has.0))

values_below : (vs : List Value) → AllByRecursion HasValueCode vs → Below (flat_map value_code vs)
values_below [] have = tt
values_below (v ∷ vs) have = joined (value_code v) (flat_map value_code vs) (value_below v have.0) (values_below vs have.1)

row_below : (row : List Value) → HasRowCode row → Below (row_code row)
row_below row has = let short = has.0 in (omega (arith, short), values_below row has.1)

change_below : (old new : Option (List Value)) → HasChangeCode old new → Below (change_code old new)
change_below None None has = (omega arith, tt)
change_below None (Some new) has = (omega arith, row_below new has)
change_below (Some old) None has = (omega arith, row_below old has)
change_below (Some old) (Some new) has = (omega arith, joined (row_code old) (row_code new) (row_below old has.0) (row_below new has.1))

pub write_bytes : (write : Placed) → HasWriteCode write → IsBytes (write_code write)
write_bytes write has = bytes_from (write_code write)
    (joined (head_code write) (change_code write.write.before write.write.after)
    (joined (to_be_bytes w32 write.pos ++ to_be_bytes w32 write.write.table) (row_code write.write.key)
    (joined (to_be_bytes w32 write.pos) (to_be_bytes w32 write.write.table) (four write.pos) (four write.write.table)) (row_below write.write.key has.head.key))
    (change_below write.write.before write.write.after has.change))
