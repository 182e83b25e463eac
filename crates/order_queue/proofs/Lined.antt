-- A transaction that was read from a line has a line.
use Rattle.std.proofs.Common.{◌≡◌, ◌<◌, ◌≤◌, ◌+◌, ◌-◌, ◌*◌, ◌^◌, ℕ, zero, suc, pos, List, [], ◌∷◌, Bool, true, false, cond, Option, Some, None, length, refl, sym, subst, arith}
use Rattle.std.specs.Prelude.{ℤ, negsuc, ◌==◌, ◌&&◌, ◌||◌, nat_le, nat_lt, codes, decimal}
use Rattle.std.specs.Char.{is_ascii_digit}
use Rattle.std.specs.List.{AllByRecursion}
use Rattle.std.specs.Option.{option_and_then, option_map, option_or}
use Rattle.std.proofs.lemmas.Bool.{leb-true, ltb-true, and_parts}
use Rattle.rel_base.specs.declared.value.Value.{Value}
use Rattle.rel_base.specs.declared.value.Value.TheVariants as value
use Rattle.rel_base.specs.Reading.{as_kind}
use Rattle.rel_base.specs.Text.{has_id_form, has_name_form}
use Rattle.proc_syntax.specs.declared.call.Tx.{Tx}
use Rattle.literals.specs.Text.{quote, with_byte, text_at, text_literal}
use Rattle.literals.specs.Bytes.{letter_x, hex_value, with_pair, pairs, where_short, bytes_at}
use Rattle.literals.specs.Number.{u64_at}
use Rattle.literals.proofs.Takes.{IsLiteral, IsText, IsU64, text_takes, u64_takes}
use Rattle.tx_text.specs.Fields.{is_space, after, word, past_word, id_at}
use Rattle.tx_text.specs.Values.{plain_int, minus_int, int_of, minus, int_at, flag, bool_at, value_at, IsValue}
use Rattle.tx_text.specs.Lines.{arg_at, first_and_more, args_within, args_of, call_of, height_and_call, tx_form, tx_of, IsTx, HasLine}
use Rattle.tx_text.proofs.Takes.{tx_spelled}

-- what was found is fine, if anything was
abbrev Found : {A : Type 0} → (A → Type 0) → Option (A × List ℕ) → Type 0
Found Fine None = Unit {0}
Found Fine (Some found) = Fine found.0

found_cond : {A : Type 0} (Fine : A → Type 0) (test : Bool) (x y : Option (A × List ℕ)) → Found Fine x → Found Fine y → Found Fine (cond test x y)
found_cond Fine true x y hx hy = hx
found_cond Fine false x y hx hy = hy

found_literal : {A : Type 0} (literal : A → List ℕ) (Fine : A → Type 0) (bytes : List ℕ) (found : Option (A × List ℕ)) → IsLiteral literal Fine bytes found → Found Fine found
found_literal literal Fine bytes None h = tt
found_literal literal Fine bytes (Some found) h = h.1

found_kind : {A : Type 0} (Fine : A → Type 0) (make : A → Value) (found : Option (A × List ℕ)) → ((x : A) → Fine x → IsValue (make x)) → Found Fine found → Found IsValue (as_kind make found)
found_kind Fine make None sound h = tt
found_kind Fine make (Some found) sound h = sound found.0 h

-- ints
abbrev IsInt : ℤ → Type 0
IsInt z = IsValue (value.Int z)

plain_fine : (n : ℕ) (rest : List ℕ) (test : Bool) → nat_lt n (2 ^ 63) ≡ test → Found IsInt (option_map (λ z. (z, rest)) (cond test (Some (pos n)) None))
plain_fine n rest true e = ltb-true n (2 ^ 63) e
plain_fine n rest false e = tt

plain_found : (found : Option (ℕ × List ℕ)) → Found IsInt (option_and_then (int_of plain_int) found)
plain_found None = tt
plain_found (Some found) = plain_fine found.0 found.1 (nat_lt found.0 (2 ^ 63)) refl

minus_fine : (n : ℕ) (rest : List ℕ) (test : Bool) → (nat_lt 0 n && nat_le n (2 ^ 63)) ≡ test → Found IsInt (option_map (λ z. (z, rest)) (cond test (Some (negsuc (n - 1))) None))
minus_fine n rest true e =
    let parts = and_parts (nat_lt 0 n) (nat_le n (2 ^ 63)) e in
    omega (arith, ltb-true 0 n parts.0, leb-true n (2 ^ 63) parts.1)
minus_fine n rest false e = tt

minus_found : (found : Option (ℕ × List ℕ)) → Found IsInt (option_and_then (int_of minus_int) found)
minus_found None = tt
minus_found (Some found) = minus_fine found.0 found.1 (nat_lt 0 found.0 && nat_le found.0 (2 ^ 63)) refl

int_found : (bs : List ℕ) → Found IsInt (int_at bs)
int_found [] = tt
int_found (b ∷ bs) = found_cond IsInt (b == minus) _ _ (minus_found (u64_at bs)) (plain_found (u64_at (b ∷ bs)))

-- bools
flag_found : (b : Bool) (rest : Option (List ℕ)) → Found (λ b. IsValue (value.Bool b)) (option_map (flag b) rest)
flag_found b None = tt
flag_found b (Some rest) = tt

or_found : {A : Type 0} (Fine : A → Type 0) (x y : Option (A × List ℕ)) → Found Fine x → Found Fine y → Found Fine (option_or x y)
or_found Fine None y hx hy = hy
or_found Fine (Some x) y hx hy = hx

bool_found : (bs : List ℕ) → Found (λ b. IsValue (value.Bool b)) (bool_at bs)
bool_found bs = or_found (λ b. IsValue (value.Bool b)) _ _ (flag_found true (after (codes "true") bs)) (flag_found false (after (codes "false") bs))

-- byte strings
abbrev AreLow : List ℕ → Type 0
AreLow bytes = AllByRecursion (λ byte. byte < 256) bytes

abbrev IsDigit : Option ℕ → Type 0
IsDigit None = Unit {0}
IsDigit (Some d) = d ≤ 15

digit_low : (b : ℕ) (plain letter : Bool) → is_ascii_digit b ≡ plain → (nat_le 97 b && nat_le b 102) ≡ letter → IsDigit (cond plain (Some (b - 48)) (cond letter (Some (b - 87)) None))
digit_low b true letter e f = let parts = and_parts (nat_le 48 b) (nat_le b 57) e in omega (arith, leb-true b 57 parts.1)
digit_low b false true e f = let parts = and_parts (nat_le 97 b) (nat_le b 102) f in omega (arith, leb-true b 102 parts.1)
digit_low b false false e f = tt

hex_low : (b : ℕ) → IsDigit (hex_value b)
hex_low b = digit_low b (is_ascii_digit b) (nat_le 97 b && nat_le b 102) refl refl

byte_low : (b : ℕ) (found : Option (List ℕ × List ℕ)) → b < 256 → Found AreLow found → Found AreLow (with_byte b found)
byte_low b None low h = tt
byte_low b (Some found) low h = (low, h)

pair_low : (high low : Option ℕ) (found : Option (List ℕ × List ℕ)) → IsDigit high → IsDigit low → Found AreLow found → Found AreLow (with_pair high low found)
pair_low None low found dh dl h = tt
pair_low (Some high) None found dh dl h = tt
pair_low (Some high) (Some low) found dh dl h = byte_low (16 * high + low) found (omega (arith, dh, dl)) h

pairs_low : (bs : List ℕ) → Found AreLow (pairs bs)
pairs_low [] = tt
pairs_low (a ∷ []) = found_cond AreLow (a == quote) (Some ([], [])) None tt tt
pairs_low (a ∷ b ∷ bs) = found_cond AreLow (a == quote) (Some ([], b ∷ bs)) _ tt (pair_low (hex_value a) (hex_value b) (pairs bs) (hex_low a) (hex_low b) (pairs_low bs))

short_if : (found : List ℕ × List ℕ) (test : Bool) → nat_le (length found.0) 255 ≡ test → AreLow found.0 → Found (λ bytes. IsValue (value.Bytes bytes)) (cond test (Some found) None)
short_if found true e low = (low, leb-true (length found.0) 255 e)
short_if found false e low = tt

short_found : (found : Option (List ℕ × List ℕ)) → Found AreLow found → Found (λ bytes. IsValue (value.Bytes bytes)) (option_and_then where_short found)
short_found None h = tt
short_found (Some found) h = short_if found (nat_le (length found.0) 255) refl h

bytes_found : (bs : List ℕ) → Found (λ bytes. IsValue (value.Bytes bytes)) (bytes_at bs)
bytes_found [] = tt
bytes_found (a ∷ []) = tt
bytes_found (a ∷ b ∷ bs) = found_cond (λ bytes. IsValue (value.Bytes bytes)) (a == letter_x && b == quote) _ None (short_found (pairs bs) (pairs_low bs)) tt

-- values
value_found : (bs : List ℕ) → Found IsValue (value_at bs)
value_found [] = tt
value_found (b ∷ bs) =
    found_cond IsValue (b == quote) _ _ (found_kind IsText value.Text (text_at (b ∷ bs)) (λ x h. h) (found_literal text_literal IsText (b ∷ bs) (text_at (b ∷ bs)) (text_takes (b ∷ bs))))
    (found_cond IsValue (b == letter_x) _ _ (found_kind (λ bytes. IsValue (value.Bytes bytes)) value.Bytes (bytes_at (b ∷ bs)) (λ x h. h) (bytes_found (b ∷ bs)))
    (found_cond IsValue (b == 116 || b == 102) _ _ (found_kind (λ b. IsValue (value.Bool b)) value.Bool (bool_at (b ∷ bs)) (λ x h. h) (bool_found (b ∷ bs)))
    (found_kind IsInt value.Int (int_at (b ∷ bs)) (λ x h. h) (int_found (b ∷ bs)))))

arg_found : (bs : List ℕ) → Found IsValue (arg_at bs)
arg_found [] = tt
arg_found (b ∷ bs) = found_cond IsValue (is_space b) (value_at bs) None (value_found bs) tt

abbrev AreValues : Option (List Value) → Type 0
AreValues None = Unit {0}
AreValues (Some values) = AllByRecursion IsValue values

more_values : (v : Value) (more : Option (List Value)) → IsValue v → AreValues more → AreValues (option_map (λ values. v ∷ values) more)
more_values v None hv hm = tt
more_values v (Some values) hv hm = (hv, hm)

first_values : (found : Option (Value × List ℕ)) (more : List ℕ → Option (List Value)) → Found IsValue found → ((rest : List ℕ) → AreValues (more rest)) → AreValues (first_and_more found more)
first_values None more h hm = tt
first_values (Some found) more h hm = more_values found.0 (more found.1) h (hm found.1)

args_found : (n : ℕ) (bytes : List ℕ) → AreValues (args_within n bytes)
args_found zero [] = tt
args_found (suc n) [] = tt
args_found zero (b ∷ bs) = tt
args_found (suc n) (b ∷ bs) = first_values (arg_at (b ∷ bs)) (args_within n) (arg_found (b ∷ bs)) (args_found n)

-- calls
abbrev Made : (Tx → Type 0) → Option Tx → Type 0
Made Fine None = Unit {0}
Made Fine (Some tx) = Fine tx

abbrev IsCall : List ℕ → ℕ → Tx → Type 0
IsCall id height tx = (tx.id ≡ id) × (tx.height ≡ height) × (has_name_form tx.procedure ≡ true) × AllByRecursion IsValue tx.args

args_made : (id : List ℕ) (height : ℕ) (name : List ℕ) (args : Option (List Value)) → has_name_form name ≡ true → AreValues args
    → Made (IsCall id height) (option_map (λ args. record { id = id; height = height; procedure = name; args = args }) args)
args_made id height name None form h = tt
args_made id height name (Some args) form h = (refl, refl, form, h)

call_if : (id : List ℕ) (height : ℕ) (name rest : List ℕ) (test : Bool) → has_name_form name ≡ test
    → Made (IsCall id height) (option_and_then (λ (name : List ℕ × List ℕ). option_map (λ args. record { id = id; height = height; procedure = name.0; args = args }) (args_of name.1)) (cond test (Some (name, rest)) None))
call_if id height name rest true form = args_made id height name (args_of rest) form (args_found (length rest) rest)
call_if id height name rest false form = tt

call_made : (id : List ℕ) (height : ℕ) (bytes : List ℕ) → Made (IsCall id height) (call_of id height bytes)
call_made id height bytes = call_if id height (word bytes) (past_word bytes) (has_name_form (word bytes)) refl

-- lines
abbrev IsTxOf : List ℕ → Tx → Type 0
IsTxOf id tx = (tx.id ≡ id) × (has_id_form id ≡ true → IsTx tx)

call_fine : (id : List ℕ) (height : ℕ) (made : Option Tx) → height < 2 ^ 64 → Made (IsCall id height) made → Made (IsTxOf id) made
call_fine id height None low h = tt
call_fine id height (Some tx) low h =
    (h.0, λ form. record { id = subst (λ x. has_id_form x ≡ true) (sym h.0) form; height = subst (λ (n : ℕ). n < 2 ^ 64) (sym h.1) low; procedure = h.2; args = h.3 })

space_fine : (id : List ℕ) (height : ℕ) (rest : Option (List ℕ)) → height < 2 ^ 64 → Made (IsTxOf id) (option_and_then (call_of id height) rest)
space_fine id height None low = tt
space_fine id height (Some rest) low = call_fine id height (call_of id height rest) low (call_made id height rest)

height_fine : (id : List ℕ) (found : Option (ℕ × List ℕ)) → Found IsU64 found → Made (IsTxOf id) (option_and_then (λ height. option_and_then (call_of id height.0) (after (codes " ") height.1)) found)
height_fine id None h = tt
height_fine id (Some found) h = space_fine id found.0 (after (codes " ") found.1) h

height_made : (id bytes : List ℕ) → Made (IsTxOf id) (height_and_call id bytes)
height_made id bytes = height_fine id (u64_at bytes) (found_literal decimal IsU64 bytes (u64_at bytes) (u64_takes bytes))

id_fine : (id : List ℕ) (made : Option Tx) → has_id_form id ≡ true → Made (IsTxOf id) made → Made IsTx made
id_fine id None form h = tt
id_fine id (Some tx) form h = h.1 form

id_space : (id : List ℕ) (rest : Option (List ℕ)) → has_id_form id ≡ true → Made IsTx (option_and_then (height_and_call id) rest)
id_space id None form = tt
id_space id (Some rest) form = id_fine id (height_and_call id rest) form (height_made id rest)

id_if : (id rest : List ℕ) (test : Bool) → has_id_form id ≡ test → Made IsTx (option_and_then (λ (id : List ℕ × List ℕ). option_and_then (height_and_call id.0) (after (codes " ") id.1)) (cond test (Some (id, rest)) None))
id_if id rest true form = id_space id (after (codes " ") rest) form
id_if id rest false form = tt

form_made : (bytes : Option (List ℕ)) → Made IsTx (option_and_then (λ rest. option_and_then (λ id. option_and_then (height_and_call id.0) (after (codes " ") id.1)) (id_at rest)) bytes)
form_made None = tt
form_made (Some bytes) = id_if (word bytes) (past_word bytes) (has_id_form (word bytes)) refl

-- a line that is taken is short
abbrev IsMade : List ℕ → Option Tx → Type 0
IsMade line made = Made (λ tx. IsTx tx × (length line ≤ 4096)) made

line_if : (line : List ℕ) (made : Option Tx) → length line ≤ 4096 → Made IsTx made → IsMade line made
line_if line None short h = tt
line_if line (Some tx) short h = (h, short)

line_made : (line : List ℕ) (test : Bool) → nat_le (length line) 4096 ≡ test → IsMade line (cond test (tx_form line) None)
line_made line true e = line_if line (tx_form line) (leb-true (length line) 4096 e) (form_made (after (codes "tx ") line))
line_made line false e = tt

pub read_has_line : (line : List ℕ) (tx : Tx) → tx_of line ≡ Some tx → HasLine tx
read_has_line line tx e =
    let made = subst (IsMade line) e (line_made line (nat_le (length line) 4096) refl) in
    record { sound = made.0; short = subst (λ text. length text ≤ 4096) (tx_spelled line tx e) made.1 }
