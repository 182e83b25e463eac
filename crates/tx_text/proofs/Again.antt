-- What is written is read again.
use Rattle.std.proofs.Common.{◌≡◌, ◌≤◌, ◌<◌, ◌+◌, ◌-◌, ◌^◌, ℕ, zero, suc, pos, List, [], ◌∷◌, ◌++◌, Bool, true, false, cond, Option, Some, None, length, drop, take, refl, sym, ◌∙◌, ap, arith, append_assoc, length-append}
use Rattle.std.specs.Prelude.{negsuc, ◌==◌, ◌&&◌, nat_le, nat_lt, decimal, not, codes}
use Rattle.std.specs.Fmt.{signed_decimal}
use Rattle.std.specs.List.{flat_map, AllByRecursion, list_all, position_or_len}
use Rattle.std.specs.Option.{option_and_then, option_map}
use Rattle.std.specs.Char.{is_ascii_digit}
use Rattle.std.specs.Str.{all_ascii_digits}
use Rattle.std.proofs.lemmas.Bool.{leb-true, le-leb, lt-ltb, and_parts, ne_eqb, and_from}
use Rattle.std.proofs.lemmas.Bool.Decides.{nat_tests}
use Rattle.std.proofs.lemmas.List.{take-append-le, drop-append-le, take_all, drop_all, append-nil}
use Rattle.std.proofs.lemmas.Fmt.{digits_decimal, decimal_nonempty}
use Rattle.rel_base.specs.declared.value.Value.{Value}
use Rattle.rel_base.specs.declared.value.Value.TheVariants as value
use Rattle.rel_base.specs.Text.{is_lower_case, is_name_byte, is_id_byte, has_name_form, has_id_form}
use Rattle.rel_base.specs.Reading.{as_kind}
use Rattle.proc_syntax.specs.declared.call.Tx.{Tx}
use Rattle.literals.specs.Text.{quote}
use Rattle.literals.specs.Bytes.{letter_x}
use Rattle.literals.specs.Number.{u64_at}
use Rattle.literals.proofs.Numerals.{own}
use Rattle.literals.specs.Laws.{starts_no_digit}
use Rattle.literals.proofs.Again.{text_again, bytes_again, number_again}
use Rattle.tx_text.specs.Fields.{is_space, after, word, past_word, id_at, name_at}
use Rattle.tx_text.specs.Values.{plain_int, minus_int, int_of, minus, value_at, value_of, alone, value_text, IsValue}
use Rattle.tx_text.specs.Lines.{first_and_more, args_within, args_of, call_of, height_and_call, tx_form, tx_of, arg_text, tx_text, IsTx}

-- a prefix that is there
pub front_digit : (ds : List ℕ) → 0 < length ds → all_ascii_digits ds ≡ true → (d : ℕ) × (rest : List ℕ) × (ds ≡ d ∷ rest) × (is_ascii_digit d ≡ true)
front_digit [] some all = absurd (omega (arith, some))
front_digit (d ∷ ds) some all = (d, ds, refl, (and_parts (is_ascii_digit d) (all_ascii_digits ds) all).0)

-- a digit begins an int without a minus
digit_begins : (d : ℕ) (rest : List ℕ) → is_ascii_digit d ≡ true → value_at (d ∷ rest) ≡ as_kind value.Int (option_and_then (int_of plain_int) (u64_at (d ∷ rest)))
digit_begins d rest digit =
    let parts = and_parts (nat_le 48 d) (nat_le d 57) digit in
    let low : 48 ≤ d = leb-true 48 d parts.0 in
    let high : d ≤ 57 = leb-true d 57 parts.1 in
    let no_quote : (d == quote) ≡ false = ne_eqb d quote (λ e. omega (arith, low, e)) in
    let no_x : (d == letter_x) ≡ false = ne_eqb d letter_x (λ e. omega (arith, high, e)) in
    let no_t : (d == 116) ≡ false = ne_eqb d 116 (λ e. omega (arith, high, e)) in
    let no_f : (d == 102) ≡ false = ne_eqb d 102 (λ e. omega (arith, high, e)) in
    let no_minus : (d == minus) ≡ false = ne_eqb d minus (λ e. omega (arith, low, e)) in
    rw (no_quote, no_x, no_t, no_f, no_minus) refl

plain_again : (n : ℕ) (rest : List ℕ) → n < 2 ^ 63 → starts_no_digit rest ≡ true → value_at (decimal n ++ rest) ≡ Some (value.Int (pos n), rest)
plain_again n rest low stop =
    let small : n < 2 ^ 64 = omega (arith, low) in
    let front = front_digit (decimal n) (decimal_nonempty n small) (digits_decimal own n small) in
    let same : decimal n ++ rest ≡ front.0 ∷ front.1 ++ rest = ap (λ ds. ds ++ rest) front.2 in
    ap value_at same ∙ digit_begins front.0 (front.1 ++ rest) front.3
    ∙ ap (λ bytes. as_kind value.Int (option_and_then (int_of plain_int) (u64_at bytes))) (sym same)
    ∙ ap (λ found. as_kind value.Int (option_and_then (int_of plain_int) found)) (number_again n rest small stop)
    ∙ ap (λ test. as_kind value.Int (option_map (λ z. (z, rest)) (cond test (Some (pos n)) None))) (lt-ltb n (2 ^ 63) low)

minus_is : (n : ℕ) → n < 2 ^ 63 → minus_int (suc n) ≡ Some (negsuc n)
minus_is n low =
    let le : nat_le (suc n) (2 ^ 63) ≡ true = le-leb (suc n) (2 ^ 63) (omega (arith, low)) in
    let some : nat_lt 0 (suc n) ≡ true = lt-ltb 0 (suc n) (omega arith) in
    let one : suc n - 1 ≡ n = omega arith in
    ap (λ test. cond (test && nat_le (suc n) (2 ^ 63)) (Some (negsuc (suc n - 1))) None) some
    ∙ ap (λ test. cond test (Some (negsuc (suc n - 1))) None) le ∙ ap (λ k. Some (negsuc k)) one

minus_again : (n : ℕ) (rest : List ℕ) → n < 2 ^ 63 → starts_no_digit rest ≡ true → value_at (signed_decimal (negsuc n) ++ rest) ≡ Some (value.Int (negsuc n), rest)
minus_again n rest low stop =
    ap (λ found. as_kind value.Int (option_and_then (int_of minus_int) found)) (number_again (suc n) rest (omega (arith, low)) stop)
    ∙ ap (λ made. as_kind value.Int (option_map (λ z. (z, rest)) made)) (minus_is n low)

pub value_again : (v : Value) (rest : List ℕ) → IsValue v → starts_no_digit rest ≡ true → value_at (value_text v ++ rest) ≡ Some (v, rest)
value_again (value.Int (pos n)) rest fine stop = plain_again n rest fine stop
value_again (value.Int (negsuc n)) rest fine stop = minus_again n rest fine stop
value_again (value.Text t) rest fine stop = ap (as_kind value.Text) (text_again t rest fine)
value_again (value.Bool true) rest fine stop = refl
value_again (value.Bool false) rest fine stop = refl
value_again (value.Bytes b) rest fine stop = ap (as_kind value.Bytes) (bytes_again b rest fine.0 fine.1)

pub value_of_again : (v : Value) → IsValue v → value_of (value_text v) ≡ Some v
value_of_again v fine = ap value_of (sym (append-nil (value_text v))) ∙ ap (option_and_then alone) (value_again v [] fine refl)

-- a word ends at the first space, or at the end
abbrev begins_field : List ℕ → Bool
begins_field [] = true
begins_field (b ∷ bs) = is_space b

field_at : (rest : List ℕ) → begins_field rest ≡ true → position_or_len is_space rest ≡ 0
field_at [] e = refl
field_at (b ∷ bs) e = ap (λ test. cond (not test) (1 + position_or_len is_space bs) 0) e

word_len : (w rest : List ℕ) → list_all (λ b. not (is_space b)) w ≡ true → begins_field rest ≡ true → position_or_len is_space (w ++ rest) ≡ length w
word_len [] rest all e = field_at rest e
word_len (b ∷ bs) rest all e =
    let parts = and_parts (not (is_space b)) (list_all (λ b. not (is_space b)) bs) all in
    let more : position_or_len is_space (bs ++ rest) ≡ length bs = word_len bs rest parts.1 e in
    ap (λ test. cond test (1 + position_or_len is_space (bs ++ rest)) 0) parts.0 ∙ omega (arith, more)

pub word_again : (w rest : List ℕ) → list_all (λ b. not (is_space b)) w ≡ true → begins_field rest ≡ true → word (w ++ rest) ≡ w
word_again w rest all e = ap (λ k. take k (w ++ rest)) (word_len w rest all e) ∙ take-append-le (length w) w rest (omega arith) ∙ take_all (length w) w (omega arith)

pub past_again : (w rest : List ℕ) → list_all (λ b. not (is_space b)) w ≡ true → begins_field rest ≡ true → past_word (w ++ rest) ≡ rest
past_again w rest all e = ap (λ k. drop k (w ++ rest)) (word_len w rest all e) ∙ drop-append-le (length w) w rest (omega arith) ∙ ap (λ xs. xs ++ rest) (drop_all (length w) w (omega arith))

-- ids and names have no space
all_from : (p q : ℕ → Bool) → ((b : ℕ) → p b ≡ true → q b ≡ true) → (bs : List ℕ) → list_all p bs ≡ true → list_all q bs ≡ true
all_from p q then_q [] all = refl
all_from p q then_q (b ∷ bs) all = let parts = and_parts (p b) (list_all p bs) all in and_from (q b) (list_all q bs) (then_q b parts.0) (all_from p q then_q bs parts.1)

id_byte_no_space : (b : ℕ) → is_id_byte b ≡ true → not (is_space b) ≡ true
id_byte_no_space b = λ e. grind (arith, nat_tests)

name_byte_no_space : (b : ℕ) → is_name_byte b ≡ true → not (is_space b) ≡ true
name_byte_no_space b = λ e. grind (arith, nat_tests)

pub digit_no_space : (b : ℕ) → is_ascii_digit b ≡ true → not (is_space b) ≡ true
digit_no_space b = λ e. grind (arith, nat_tests)

lower_no_space : (b : ℕ) → is_lower_case b ≡ true → not (is_space b) ≡ true
lower_no_space b = λ e. grind (arith, nat_tests)

id_no_space : (bytes : List ℕ) → has_id_form bytes ≡ true → list_all (λ b. not (is_space b)) bytes ≡ true
id_no_space bytes e = all_from is_id_byte (λ b. not (is_space b)) id_byte_no_space bytes (and_parts (nat_lt 0 (length bytes) && nat_le (length bytes) 32) (list_all is_id_byte bytes) e).1

name_no_space : (bytes : List ℕ) → has_name_form bytes ≡ true → list_all (λ b. not (is_space b)) bytes ≡ true
name_no_space [] e = refl
name_no_space (b ∷ bs) e =
    let parts = and_parts (is_lower_case b) (list_all is_name_byte bs) (and_parts (is_lower_case b && list_all is_name_byte bs) (nat_lt (length bs) 32) e).0 in
    and_from (not (is_space b)) (list_all (λ b. not (is_space b)) bs) (lower_no_space b parts.0) (all_from is_name_byte (λ b. not (is_space b)) name_byte_no_space bs parts.1)

digits_no_space : (ds : List ℕ) → all_ascii_digits ds ≡ true → list_all (λ b. not (is_space b)) ds ≡ true
digits_no_space [] all = refl
digits_no_space (d ∷ ds) all =
    let parts = and_parts (is_ascii_digit d) (all_ascii_digits ds) all in
    and_from (not (is_space d)) (list_all (λ b. not (is_space b)) ds) (digit_no_space d parts.0) (digits_no_space ds parts.1)

pub decimal_no_space : (n : ℕ) → n < 2 ^ 64 → list_all (λ b. not (is_space b)) (decimal n) ≡ true
decimal_no_space n low = digits_no_space (decimal n) (digits_decimal own n low)

id_again : (id rest : List ℕ) → has_id_form id ≡ true → begins_field rest ≡ true → id_at (id ++ rest) ≡ Some (id, rest)
id_again id rest fine e =
    ap (λ w. cond (has_id_form w) (Some (w, past_word (id ++ rest))) None) (word_again id rest (id_no_space id fine) e)
    ∙ ap (λ p. cond (has_id_form id) (Some (id, p)) None) (past_again id rest (id_no_space id fine) e)
    ∙ ap (λ test. cond test (Some (id, rest)) None) fine

name_again : (name rest : List ℕ) → has_name_form name ≡ true → begins_field rest ≡ true → name_at (name ++ rest) ≡ Some (name, rest)
name_again name rest fine e =
    ap (λ w. cond (has_name_form w) (Some (w, past_word (name ++ rest))) None) (word_again name rest (name_no_space name fine) e)
    ∙ ap (λ p. cond (has_name_form name) (Some (name, p)) None) (past_again name rest (name_no_space name fine) e)
    ∙ ap (λ test. cond test (Some (name, rest)) None) fine

-- arguments begin with a space, or there are none
args_begin : (vs : List Value) → (begins_field (flat_map arg_text vs) ≡ true) × (starts_no_digit (flat_map arg_text vs) ≡ true)
args_begin [] = (refl, refl)
args_begin (v ∷ vs) = (refl, refl)

args_length : (vs : List Value) → length vs ≤ length (flat_map arg_text vs)
args_length [] = omega arith
args_length (v ∷ vs) = omega (arith, args_length vs, length-append (value_text v) (flat_map arg_text vs))

args_within_again : (n : ℕ) (vs : List Value) → length vs ≤ n → AllByRecursion IsValue vs → args_within n (flat_map arg_text vs) ≡ Some vs
args_within_again zero [] le fine = refl
args_within_again (suc n) [] le fine = refl
args_within_again zero (v ∷ vs) le fine = absurd (omega (arith, le))
args_within_again (suc n) (v ∷ vs) le fine =
    ap (λ found. first_and_more found (args_within n)) (value_again v (flat_map arg_text vs) fine.0 (args_begin vs).1)
    ∙ ap (option_map (λ values. v ∷ values)) (args_within_again n vs (omega (arith, le)) fine.1)

pub args_again : (vs : List Value) → AllByRecursion IsValue vs → args_of (flat_map arg_text vs) ≡ Some vs
args_again vs fine = args_within_again (length (flat_map arg_text vs)) vs (args_length vs) fine

call_again : (id : List ℕ) (height : ℕ) (name : List ℕ) (vs : List Value) → has_name_form name ≡ true → AllByRecursion IsValue vs
    → call_of id height (name ++ flat_map arg_text vs) ≡ Some (record { id = id; height = height; procedure = name; args = vs })
call_again id height name vs named fine =
    ap (option_and_then (λ found. option_map (λ args. record { id = id; height = height; procedure = found.0; args = args }) (args_of found.1))) (name_again name (flat_map arg_text vs) named (args_begin vs).0)
    ∙ ap (option_map (λ args. record { id = id; height = height; procedure = name; args = args })) (args_again vs fine)

-- what is read after the id, and after the height
abbrev after_id : List ℕ × List ℕ → Option Tx
after_id id = option_and_then (height_and_call id.0) (after (codes " ") id.1)

abbrev after_height : List ℕ → ℕ × List ℕ → Option Tx
after_height id height = option_and_then (call_of id height.0) (after (codes " ") height.1)

pub tx_again : (tx : Tx) → IsTx tx → length (tx_text tx) ≤ 4096 → tx_of (tx_text tx) ≡ Some tx
tx_again tx fine short =
    let call : List ℕ = 32 ∷ (tx.procedure ++ flat_map arg_text tx.args) in
    ap (λ test. cond test (tx_form (tx_text tx)) None) (le-leb (length (tx_text tx)) 4096 short)
    ∙ ap (λ bytes. option_and_then after_id (id_at bytes)) (append_assoc tx.id (32 ∷ decimal tx.height) call)
    ∙ ap (option_and_then after_id) (id_again tx.id (32 ∷ (decimal tx.height ++ call)) fine.id refl)
    ∙ ap (option_and_then (after_height tx.id)) (number_again tx.height call fine.height refl)
    ∙ call_again tx.id tx.height tx.procedure tx.args fine.procedure fine.args
