-- Lines as they are written hold no newline.
use Rattle.std.proofs.Common.{◌≡◌, ◌<◌, ◌^◌, ◌∙◌, ap, ℕ, suc, pos, List, [], ◌∷◌, ◌++◌, Bool, true, false, cond, refl, arith}
use Rattle.std.specs.Prelude.{negsuc, ◌&&◌, ◌/◌, ◌%◌, nat_le, not, decimal}
use Rattle.std.specs.List.{flat_map, list_all, onto_first, AllByRecursion}
use Rattle.std.specs.Char.{is_ascii_digit, digit_char}
use Rattle.std.specs.Str.{all_ascii_digits}
use Rattle.std.proofs.lemmas.Bool.{and_parts, and_from, not-true}
use Rattle.std.proofs.lemmas.Bool.Decides.{nat_tests}
use Rattle.std.proofs.lemmas.Fmt.{digits_decimal}
use Rattle.rel_base.specs.Text.{has_no_control, is_lower_case, is_name_byte, is_id_byte, has_name_form, has_id_form}
use Rattle.rel_base.specs.declared.value.Value.{Value}
use Rattle.rel_base.specs.declared.value.Value.TheVariants as value
use Rattle.proc_syntax.specs.declared.call.Tx.{Tx}
use Rattle.literals.specs.Text.{quote, backslash, is_escaped, quoted_byte}
use Rattle.literals.specs.Bytes.{hex_pair}
use Rattle.literals.proofs.Numerals.{own}
use Rattle.tx_text.specs.Values.{IsValue, value_text}
use Rattle.tx_text.specs.Lines.{IsTx, arg_text, head_text, call_text, tx_text}
use Rattle.tx_text.specs.Parts.{is_newline, parts_of}

-- no newline
abbrev pub plain : List ℕ → Bool
plain bytes = list_all (λ b. not (is_newline b)) bytes

pub plain-append : (xs ys : List ℕ) → plain xs ≡ true → plain ys ≡ true → plain (xs ++ ys) ≡ true
plain-append [] ys hx hy = hy
plain-append (x ∷ xs) ys hx hy = let parts = and_parts (not (is_newline x)) (plain xs) hx in and_from (not (is_newline x)) (plain (xs ++ ys)) parts.0 (plain-append xs ys parts.1 hy)

pub plain-from : (p : ℕ → Bool) → ((b : ℕ) → p b ≡ true → not (is_newline b) ≡ true) → (bytes : List ℕ) → list_all p bytes ≡ true → plain bytes ≡ true
plain-from p then_plain [] all = refl
plain-from p then_plain (b ∷ bs) all = let parts = and_parts (p b) (list_all p bs) all in and_from (not (is_newline b)) (plain bs) (then_plain b parts.0) (plain-from p then_plain bs parts.1)

id_byte_plain : (b : ℕ) → is_id_byte b ≡ true → not (is_newline b) ≡ true
id_byte_plain b = λ e. grind (arith, nat_tests)

name_byte_plain : (b : ℕ) → is_name_byte b ≡ true → not (is_newline b) ≡ true
name_byte_plain b = λ e. grind (arith, nat_tests)

lower_plain : (b : ℕ) → is_lower_case b ≡ true → not (is_newline b) ≡ true
lower_plain b = λ e. grind (arith, nat_tests)

digit_plain : (b : ℕ) → is_ascii_digit b ≡ true → not (is_newline b) ≡ true
digit_plain b = λ e. grind (arith, nat_tests)

high_plain : (b : ℕ) → nat_le 32 b ≡ true → not (is_newline b) ≡ true
high_plain b = λ e. grind (arith, nat_tests)

hex_plain : (d : ℕ) → not (is_newline (digit_char d)) ≡ true
hex_plain d = grind (arith, nat_tests)

pub id_plain : (id : List ℕ) → has_id_form id ≡ true → plain id ≡ true
id_plain id e = plain-from is_id_byte id_byte_plain id (and_parts _ (list_all is_id_byte id) e).1

pub name_plain : (name : List ℕ) → has_name_form name ≡ true → plain name ≡ true
name_plain [] e = refl
name_plain (b ∷ bs) e =
    let parts = and_parts (is_lower_case b) (list_all is_name_byte bs) (and_parts (is_lower_case b && list_all is_name_byte bs) _ e).0 in
    and_from (not (is_newline b)) (plain bs) (lower_plain b parts.0) (plain-from is_name_byte name_byte_plain bs parts.1)

digits_plain : (ds : List ℕ) → all_ascii_digits ds ≡ true → plain ds ≡ true
digits_plain [] e = refl
digits_plain (d ∷ ds) e = let parts = and_parts (is_ascii_digit d) (all_ascii_digits ds) e in and_from (not (is_newline d)) (plain ds) (digit_plain d parts.0) (digits_plain ds parts.1)

pub decimal_plain : (n : ℕ) → n < 2 ^ 64 → plain (decimal n) ≡ true
decimal_plain n low = digits_plain (decimal n) (digits_decimal own n low)

-- texts and byte strings
quoted_plain : (b : ℕ) (test : Bool) → nat_le 32 b ≡ true → plain (cond test (backslash ∷ b ∷ []) (b ∷ [])) ≡ true
quoted_plain b true high = and_from (not (is_newline b)) true (high_plain b high) refl
quoted_plain b false high = and_from (not (is_newline b)) true (high_plain b high) refl

inside_plain : (text : List ℕ) → has_no_control text ≡ true → plain (flat_map quoted_byte text) ≡ true
inside_plain [] e = refl
inside_plain (b ∷ bs) e =
    let parts = and_parts (nat_le 32 b) (has_no_control bs) e in
    plain-append (quoted_byte b) (flat_map quoted_byte bs) (quoted_plain b (is_escaped b) parts.0) (inside_plain bs parts.1)

pairs_plain : (bytes : List ℕ) → plain (flat_map hex_pair bytes) ≡ true
pairs_plain [] = refl
pairs_plain (b ∷ bs) = and_from (not (is_newline (digit_char (b / 16)))) _ (hex_plain (b / 16)) (and_from (not (is_newline (digit_char (b % 16)))) _ (hex_plain (b % 16)) (pairs_plain bs))

value_plain : (v : Value) → IsValue v → plain (value_text v) ≡ true
value_plain (value.Int (pos n)) fine = decimal_plain n (omega (arith, fine))
value_plain (value.Int (negsuc n)) fine = decimal_plain (suc n) (omega (arith, fine))
value_plain (value.Text t) fine =
    plain-append (flat_map quoted_byte t) (quote ∷ []) (inside_plain t (and_parts _ (has_no_control t) (and_parts _ _ fine).1).1) refl
value_plain (value.Bool true) fine = refl
value_plain (value.Bool false) fine = refl
value_plain (value.Bytes b) fine = plain-append (flat_map hex_pair b) (quote ∷ []) (pairs_plain b) refl

args_plain : (vs : List Value) → AllByRecursion IsValue vs → plain (flat_map arg_text vs) ≡ true
args_plain [] fine = refl
args_plain (v ∷ vs) fine = plain-append (value_text v) (flat_map arg_text vs) (value_plain v fine.0) (args_plain vs fine.1)

pub tx_plain : (tx : Tx) → IsTx tx → plain (tx_text tx) ≡ true
tx_plain tx fine =
    plain-append (head_text tx) (call_text tx)
    (plain-append tx.id (32 ∷ decimal tx.height) (id_plain tx.id fine.id) (decimal_plain tx.height fine.height))
    (plain-append tx.procedure (flat_map arg_text tx.args) (name_plain tx.procedure fine.procedure) (args_plain tx.args fine.args))

-- a line without a newline, before its newline
pub parts_line : (line rest : List ℕ) → plain line ≡ true → parts_of (line ++ (10 ∷ rest)) ≡ line ∷ parts_of rest
parts_line [] rest e = refl
parts_line (b ∷ bs) rest e =
    let parts = and_parts (not (is_newline b)) (plain bs) e in
    ap (λ test. cond test ([] ∷ parts_of (bs ++ (10 ∷ rest))) (onto_first b (parts_of (bs ++ (10 ∷ rest))))) (not-true (is_newline b) parts.0)
    ∙ ap (onto_first b) (parts_line bs rest parts.1)
