-- What is read was written so: a value and a transaction have one spelling.
use Rattle.std.proofs.Common.{◌≡◌, ◌<◌, ◌-◌, ◌^◌, ℕ, zero, suc, pos, List, [], ◌∷◌, ◌++◌, Bool, true, false, cond, Option, Some, None, length, drop, take, refl, sym, ◌∙◌, ap, subst, arith, append_assoc}
use Rattle.std.specs.Prelude.{ℤ, negsuc, ◌==◌, ◌&&◌, ◌||◌, nat_le, nat_lt, decimal, codes}
use Rattle.std.specs.Fmt.{signed_decimal}
use Rattle.std.specs.List.{flat_map, position_or_len}
use Rattle.std.specs.Option.{option_and_then, option_map, option_or}
use Rattle.std.specs.Str.{bytes_eq}
use Rattle.std.proofs.lemmas.Bool.{eqb-true, ltb-true, and_parts}
use Rattle.std.proofs.lemmas.List.{take-append-drop, append-nil}
use Rattle.rel_base.specs.declared.value.Value.{Value}
use Rattle.rel_base.specs.declared.value.Value.TheVariants as value
use Rattle.rel_base.specs.Text.{has_name_form, has_id_form}
use Rattle.rel_base.proofs.Bytes.{equal_bytes}
use Rattle.rel_base.specs.Reading.{as_kind}
use Rattle.proc_syntax.specs.declared.call.Tx.{Tx}
use Rattle.literals.specs.Text.{quote, text_at, text_literal}
use Rattle.literals.specs.Bytes.{letter_x, bytes_at, bytes_literal}
use Rattle.literals.specs.Number.{u64_at}
use Rattle.literals.proofs.Takes.{IsLiteral, IsText, IsShort, IsU64, text_takes, bytes_takes, u64_takes}
use Rattle.tx_text.specs.Fields.{is_space, after, word, past_word, id_at, name_at}
use Rattle.tx_text.specs.Values.{plain_int, minus_int, int_of, minus, int_at, flag, bool_at, value_at, value_of, alone, value_text}
use Rattle.tx_text.specs.Lines.{arg_at, first_and_more, args_within, args_of, call_of, height_and_call, tx_form, tx_of, arg_text, call_text, tx_text}

-- the bytes are the text of what was found, and what was left
abbrev pub Spelled : {A : Type 0} → (A → List ℕ) → List ℕ → Option (A × List ℕ) → Type 0
Spelled text bytes None = Unit {0}
Spelled text bytes (Some found) = bytes ≡ text found.0 ++ found.1

spelled_cond : {A : Type 0} (text : A → List ℕ) (bytes : List ℕ) (test : Bool) (x y : Option (A × List ℕ)) → Spelled text bytes x → Spelled text bytes y → Spelled text bytes (cond test x y)
spelled_cond text bytes true x y hx hy = hx
spelled_cond text bytes false x y hx hy = hy

kind_takes : {A : Type 0} (literal : A → List ℕ) (Fine : A → Type 0) (make : A → Value) (bytes : List ℕ) (found : Option (A × List ℕ)) → ((x : A) → literal x ≡ value_text (make x))
    → IsLiteral literal Fine bytes found → Spelled value_text bytes (as_kind make found)
kind_takes literal Fine make bytes None same h = tt
kind_takes literal Fine make bytes (Some found) same h = h.0 ∙ ap (λ text. text ++ found.1) (same found.0)

-- ints
minus_sign : (n : ℕ) (rest bytes : List ℕ) (test : Bool) → (nat_lt 0 n && nat_le n (2 ^ 63)) ≡ test → bytes ≡ decimal n ++ rest
    → Spelled signed_decimal (minus ∷ bytes) (option_map (λ z. (z, rest)) (cond test (Some (negsuc (n - 1))) None))
minus_sign n rest bytes true e h =
    let some : 0 < n = ltb-true 0 n (and_parts (nat_lt 0 n) (nat_le n (2 ^ 63)) e).0 in
    let one : n ≡ suc (n - 1) = omega (arith, some) in
    ap (λ xs. minus ∷ xs) (h ∙ ap (λ k. decimal k ++ rest) one)
minus_sign n rest bytes false e h = tt

minus_found : (bytes : List ℕ) (found : Option (ℕ × List ℕ)) → IsLiteral decimal IsU64 bytes found → Spelled signed_decimal (minus ∷ bytes) (option_and_then (int_of minus_int) found)
minus_found bytes None h = tt
minus_found bytes (Some found) h = minus_sign found.0 found.1 bytes (nat_lt 0 found.0 && nat_le found.0 (2 ^ 63)) refl h.0

plain_sign : (n : ℕ) (rest bytes : List ℕ) (test : Bool) → bytes ≡ decimal n ++ rest → Spelled signed_decimal bytes (option_map (λ z. (z, rest)) (cond test (Some (pos n)) None))
plain_sign n rest bytes true h = h
plain_sign n rest bytes false h = tt

plain_found : (bytes : List ℕ) (found : Option (ℕ × List ℕ)) → IsLiteral decimal IsU64 bytes found → Spelled signed_decimal bytes (option_and_then (int_of plain_int) found)
plain_found bytes None h = tt
plain_found bytes (Some found) h = plain_sign found.0 found.1 bytes (nat_lt found.0 (2 ^ 63)) h.0

int_begins : (b : ℕ) (bs : List ℕ) (test : Bool) → (b == minus) ≡ test → Spelled signed_decimal (b ∷ bs) (cond test (option_and_then (int_of minus_int) (u64_at bs)) (option_and_then (int_of plain_int) (u64_at (b ∷ bs))))
int_begins b bs true e = subst (λ (x : ℕ). Spelled signed_decimal (x ∷ bs) (option_and_then (int_of minus_int) (u64_at bs))) (sym (eqb-true b minus e)) (minus_found bs (u64_at bs) (u64_takes bs))
int_begins b bs false e = plain_found (b ∷ bs) (u64_at (b ∷ bs)) (u64_takes (b ∷ bs))

int_takes : (bs : List ℕ) → Spelled signed_decimal bs (int_at bs)
int_takes [] = tt
int_takes (b ∷ bs) = int_begins b bs (b == minus) refl

-- what follows some bytes that stand first
abbrev pub IsInFront : List ℕ → List ℕ → Option (List ℕ) → Type 0
IsInFront front bytes None = Unit {0}
IsInFront front bytes (Some rest) = bytes ≡ front ++ rest

follows_if : (front bytes : List ℕ) (test : Bool) → bytes_eq (take (length front) bytes) front ≡ test → IsInFront front bytes (cond test (Some (drop (length front) bytes)) None)
follows_if front bytes true e = sym (take-append-drop (length front) bytes) ∙ ap (λ xs. xs ++ drop (length front) bytes) (equal_bytes (take (length front) bytes) front e)
follows_if front bytes false e = tt

pub after_takes : (front bytes : List ℕ) → IsInFront front bytes (after front bytes)
after_takes front bytes = follows_if front bytes (bytes_eq (take (length front) bytes) front) refl

abbrev flag_text : Bool → List ℕ
flag_text b = cond b (codes "true") (codes "false")

flag_takes : (b : Bool) (bytes : List ℕ) (rest : Option (List ℕ)) → IsInFront (flag_text b) bytes rest → Spelled flag_text bytes (option_map (flag b) rest)
flag_takes b bytes None h = tt
flag_takes b bytes (Some rest) h = h

or_takes : {A : Type 0} (text : A → List ℕ) (bytes : List ℕ) (x y : Option (A × List ℕ)) → Spelled text bytes x → Spelled text bytes y → Spelled text bytes (option_or x y)
or_takes text bytes None y hx hy = hy
or_takes text bytes (Some x) y hx hy = hx

bool_takes : (bs : List ℕ) → Spelled flag_text bs (bool_at bs)
bool_takes bs = or_takes flag_text bs _ _ (flag_takes true bs _ (after_takes (codes "true") bs)) (flag_takes false bs _ (after_takes (codes "false") bs))

spelled_kind : {A : Type 0} (text : A → List ℕ) (make : A → Value) (bytes : List ℕ) (found : Option (A × List ℕ)) → ((x : A) → text x ≡ value_text (make x)) → Spelled text bytes found → Spelled value_text bytes (as_kind make found)
spelled_kind text make bytes None same h = tt
spelled_kind text make bytes (Some found) same h = h ∙ ap (λ xs. xs ++ found.1) (same found.0)

int_text : (z : ℤ) → signed_decimal z ≡ value_text (value.Int z)
int_text z = refl

pub value_takes : (bs : List ℕ) → Spelled value_text bs (value_at bs)
value_takes [] = tt
value_takes (b ∷ bs) =
    spelled_cond value_text (b ∷ bs) (b == quote) _ _ (kind_takes text_literal IsText value.Text (b ∷ bs) (text_at (b ∷ bs)) (λ x. refl) (text_takes (b ∷ bs)))
    (spelled_cond value_text (b ∷ bs) (b == letter_x) _ _ (kind_takes bytes_literal IsShort value.Bytes (b ∷ bs) (bytes_at (b ∷ bs)) (λ x. refl) (bytes_takes (b ∷ bs)))
    (spelled_cond value_text (b ∷ bs) (b == 116 || b == 102) _ _ (spelled_kind flag_text value.Bool (b ∷ bs) (bool_at (b ∷ bs)) (λ x. refl) (bool_takes (b ∷ bs)))
    (spelled_kind signed_decimal value.Int (b ∷ bs) (int_at (b ∷ bs)) int_text (int_takes (b ∷ bs)))))

-- the whole of the bytes
abbrev pub SpelledWhole : {A : Type 0} → (A → List ℕ) → List ℕ → Option A → Type 0
SpelledWhole text bytes None = Unit {0}
SpelledWhole text bytes (Some found) = bytes ≡ text found

alone_takes : (bytes : List ℕ) (v : Value) (rest : List ℕ) → bytes ≡ value_text v ++ rest → SpelledWhole value_text bytes (alone (v, rest))
alone_takes bytes v [] h = h ∙ append-nil (value_text v)
alone_takes bytes v (b ∷ bs) h = tt

whole_takes : (bytes : List ℕ) (found : Option (Value × List ℕ)) → Spelled value_text bytes found → SpelledWhole value_text bytes (option_and_then alone found)
whole_takes bytes None h = tt
whole_takes bytes (Some found) h = alone_takes bytes found.0 found.1 h

pub value_of_takes : (bytes : List ℕ) → SpelledWhole value_text bytes (value_of bytes)
value_of_takes bytes = whole_takes bytes (value_at bytes) (value_takes bytes)

-- arguments
arg_space : (b : ℕ) (bs : List ℕ) (found : Option (Value × List ℕ)) → b ≡ 32 → Spelled value_text bs found → Spelled arg_text (b ∷ bs) found
arg_space b bs None e h = tt
arg_space b bs (Some found) e h = ap (λ x. x ∷ bs) e ∙ ap (λ xs. 32 ∷ xs) h

arg_takes_if : (b : ℕ) (bs : List ℕ) (test : Bool) → is_space b ≡ test → Spelled arg_text (b ∷ bs) (cond test (value_at bs) None)
arg_takes_if b bs true e = arg_space b bs (value_at bs) (eqb-true b 32 e) (value_takes bs)
arg_takes_if b bs false e = tt

abbrev args_text : List Value → List ℕ
args_text vs = flat_map arg_text vs

more_takes : (bytes rest : List ℕ) (v : Value) (more : Option (List Value)) → bytes ≡ arg_text v ++ rest → SpelledWhole args_text rest more → SpelledWhole args_text bytes (option_map (λ values. v ∷ values) more)
more_takes bytes rest v None h hm = tt
more_takes bytes rest v (Some values) h hm = h ∙ ap (λ xs. arg_text v ++ xs) hm

first_takes : (bytes : List ℕ) (found : Option (Value × List ℕ)) (more : List ℕ → Option (List Value)) → Spelled arg_text bytes found → ((rest : List ℕ) → SpelledWhole args_text rest (more rest)) → SpelledWhole args_text bytes (first_and_more found more)
first_takes bytes None more h hm = tt
first_takes bytes (Some found) more h hm = more_takes bytes found.1 found.0 (more found.1) h (hm found.1)

args_within_takes : (n : ℕ) (bytes : List ℕ) → SpelledWhole args_text bytes (args_within n bytes)
args_within_takes zero [] = refl
args_within_takes (suc n) [] = refl
args_within_takes zero (b ∷ bs) = tt
args_within_takes (suc n) (b ∷ bs) = first_takes (b ∷ bs) (arg_at (b ∷ bs)) (args_within n) (arg_takes_if b bs (is_space b) refl) (args_within_takes n)

-- words
word_takes : (bytes : List ℕ) (test : Bool) → Spelled (λ w. w) bytes (cond test (Some (word bytes, past_word bytes)) None)
word_takes bytes true = sym (take-append-drop (position_or_len is_space bytes) bytes)
word_takes bytes false = tt

-- a call, and what stands before it
abbrev CallIs : List ℕ → ℕ → List ℕ → Option Tx → Type 0
CallIs id height bytes None = Unit {0}
CallIs id height bytes (Some tx) = (bytes ≡ tx.procedure ++ args_text tx.args) × (tx.id ≡ id) × (tx.height ≡ height)

call_args : (id : List ℕ) (height : ℕ) (bytes name rest : List ℕ) (args : Option (List Value)) → bytes ≡ name ++ rest → SpelledWhole args_text rest args
    → CallIs id height bytes (option_map (λ args. record { id = id; height = height; procedure = name; args = args }) args)
call_args id height bytes name rest None h ha = tt
call_args id height bytes name rest (Some args) h ha = (h ∙ ap (λ xs. name ++ xs) ha, refl, refl)

call_name : (id : List ℕ) (height : ℕ) (bytes : List ℕ) (found : Option (List ℕ × List ℕ)) → Spelled (λ w. w) bytes found
    → CallIs id height bytes (option_and_then (λ name. option_map (λ args. record { id = id; height = height; procedure = name.0; args = args }) (args_of name.1)) found)
call_name id height bytes None h = tt
call_name id height bytes (Some found) h = call_args id height bytes found.0 found.1 (args_of found.1) h (args_within_takes (length found.1) found.1)

call_takes : (id : List ℕ) (height : ℕ) (bytes : List ℕ) → CallIs id height bytes (call_of id height bytes)
call_takes id height bytes = call_name id height bytes (name_at bytes) (word_takes bytes (has_name_form (word bytes)))

-- the height, a space and the call
abbrev HeightIs : List ℕ → List ℕ → Option Tx → Type 0
HeightIs id bytes None = Unit {0}
HeightIs id bytes (Some tx) = (bytes ≡ decimal tx.height ++ call_text tx) × (tx.id ≡ id)

height_call : (id : List ℕ) (height : ℕ) (bytes rest call : List ℕ) (made : Option Tx) → bytes ≡ decimal height ++ rest → rest ≡ codes " " ++ call → CallIs id height call made → HeightIs id bytes made
height_call id height bytes rest call None hb hr hc = tt
height_call id height bytes rest call (Some tx) hb hr hc =
    (hb ∙ ap (λ xs. decimal height ++ xs) (hr ∙ ap (λ xs. 32 ∷ xs) hc.0) ∙ ap (λ k. decimal k ++ call_text tx) (sym hc.2), hc.1)

height_space : (id : List ℕ) (height : ℕ) (bytes rest : List ℕ) (call : Option (List ℕ)) → bytes ≡ decimal height ++ rest → IsInFront (codes " ") rest call → HeightIs id bytes (option_and_then (call_of id height) call)
height_space id height bytes rest None hb hf = tt
height_space id height bytes rest (Some call) hb hf = height_call id height bytes rest call (call_of id height call) hb hf (call_takes id height call)

height_found : (id bytes : List ℕ) (found : Option (ℕ × List ℕ)) → IsLiteral decimal IsU64 bytes found
    → HeightIs id bytes (option_and_then (λ height. option_and_then (call_of id height.0) (after (codes " ") height.1)) found)
height_found id bytes None h = tt
height_found id bytes (Some found) h = height_space id found.0 bytes found.1 (after (codes " ") found.1) h.0 (after_takes (codes " ") found.1)

height_takes : (id bytes : List ℕ) → HeightIs id bytes (height_and_call id bytes)
height_takes id bytes = height_found id bytes (u64_at bytes) (u64_takes bytes)

-- the id, a space and the rest
form_made : (line bytes id rest more : List ℕ) (made : Option Tx) → line ≡ codes "tx " ++ bytes → bytes ≡ id ++ rest → rest ≡ codes " " ++ more → HeightIs id more made → SpelledWhole tx_text line made
form_made line bytes id rest more None hl hb hr hm = tt
form_made line bytes id rest more (Some tx) hl hb hr hm =
    hl ∙ ap (λ xs. codes "tx " ++ xs) (hb ∙ ap (λ xs. id ++ xs) (hr ∙ ap (λ xs. 32 ∷ xs) hm.0) ∙ ap (λ xs. xs ++ (32 ∷ (decimal tx.height ++ call_text tx))) (sym hm.1)
    ∙ sym (append_assoc tx.id (32 ∷ decimal tx.height) (call_text tx)))

form_space : (line bytes id rest : List ℕ) (more : Option (List ℕ)) → line ≡ codes "tx " ++ bytes → bytes ≡ id ++ rest → IsInFront (codes " ") rest more → SpelledWhole tx_text line (option_and_then (height_and_call id) more)
form_space line bytes id rest None hl hb hf = tt
form_space line bytes id rest (Some more) hl hb hf = form_made line bytes id rest more (height_and_call id more) hl hb hf (height_takes id more)

form_id : (line bytes : List ℕ) (found : Option (List ℕ × List ℕ)) → line ≡ codes "tx " ++ bytes → Spelled (λ w. w) bytes found
    → SpelledWhole tx_text line (option_and_then (λ id. option_and_then (height_and_call id.0) (after (codes " ") id.1)) found)
form_id line bytes None hl hs = tt
form_id line bytes (Some found) hl hs = form_space line bytes found.0 found.1 (after (codes " ") found.1) hl hs (after_takes (codes " ") found.1)

form_front : (line : List ℕ) (bytes : Option (List ℕ)) → IsInFront (codes "tx ") line bytes
    → SpelledWhole tx_text line (option_and_then (λ rest. option_and_then (λ id. option_and_then (height_and_call id.0) (after (codes " ") id.1)) (id_at rest)) bytes)
form_front line None h = tt
form_front line (Some bytes) h = form_id line bytes (id_at bytes) h (word_takes bytes (has_id_form (word bytes)))

line_takes : (line : List ℕ) (test : Bool) → SpelledWhole tx_text line (cond test (tx_form line) None)
line_takes line true = form_front line (after (codes "tx ") line) (after_takes (codes "tx ") line)
line_takes line false = tt

pub tx_takes : (line : List ℕ) → SpelledWhole tx_text line (tx_of line)
tx_takes line = line_takes line (nat_le (length line) 4096)

-- so a line that is read is that of its transaction, and so with a value
pub tx_spelled : (line : List ℕ) (tx : Tx) → tx_of line ≡ Some tx → line ≡ tx_text tx
tx_spelled line tx e = subst (SpelledWhole tx_text line) e (tx_takes line)

pub value_of_spelled : (bytes : List ℕ) (v : Value) → value_of bytes ≡ Some v → bytes ≡ value_text v
value_of_spelled bytes v e = subst (SpelledWhole value_text bytes) e (value_of_takes bytes)
