-- Words, names, literals and signs are read as they are spelled.
use Rattle.std.proofs.Common.{◌≡◌, ℕ, ◌<◌, ◌+◌, List, [], ◌∷◌, ◌++◌, length, take, drop, Bool, true, false, cond, ◌&&◌, ◌==◌, ◌^◌, not, nat_lt, Some, None, refl, ap, ◌∙◌, arith, pos, codes, append_assoc}
use Rattle.std.specs.Prelude.{decimal, ℤ, negsuc}
use Rattle.std.specs.Char.{is_ascii_digit}
use Rattle.std.specs.Fmt.{signed_decimal}
use Rattle.std.specs.List.{list_all, flat_map}
use Rattle.std.specs.Str.{all_ascii_digits}
use Rattle.std.proofs.lemmas.Bool.{lt-ltb, and_parts, and_right, or_parts}
use Rattle.std.proofs.lemmas.Bool.Decides.{nat_tests}
use Rattle.std.proofs.lemmas.Fmt.{digits_decimal, decimal_nonempty}
use Rattle.std.proofs.lemmas.List.{take-append-le, drop-append-le, take_all, drop_all}
use Rattle.rel_base.specs.Text.{is_lower_case, is_name_byte, has_name_form}
use Rattle.rel_base.specs.declared.value.Kind.{Kind}
use Rattle.rel_base.specs.declared.value.Kind.TheVariants as kind
use Rattle.rel_base.specs.declared.value.Value.{Value}
use Rattle.rel_base.specs.declared.value.Value.TheVariants as value
use Rattle.literals.specs.Laws.{starts_no_digit}
use Rattle.literals.specs.Number.{u64_at}
use Rattle.literals.specs.Text.{quote, quoted_byte, text_literal}
use Rattle.literals.specs.Bytes.{letter_x, bytes_at, hex_pair, bytes_literal}
use Rattle.literals.proofs.Numerals.{own}
use Rattle.literals.proofs.Again.{text_again, bytes_again, number_again}
use Rattle.proc_syntax.specs.declared.tree.Named.{Named}
use Rattle.proc_syntax.specs.declared.tree.Op.{Op}
use Rattle.proc_syntax.specs.declared.tree.Op.TheVariants as op
use Rattle.proc_parse.specs.declared.token.Word.{Word}
use Rattle.proc_parse.specs.declared.token.Word.TheVariants as word
use Rattle.proc_parse.specs.declared.token.Sign.{Sign}
use Rattle.proc_parse.specs.declared.token.Sign.TheVariants as sign
use Rattle.proc_parse.specs.declared.token.Lexeme.{Lexeme}
use Rattle.proc_parse.specs.declared.token.Lexeme.TheVariants as lexeme
use Rattle.proc_parse.specs.declared.lexer.Piece.TheVariants as piece
use Rattle.proc_parse.specs.Words.{words, spelling}
use Rattle.proc_parse.specs.Tokens.{Found, newline, is_space, hash, word_in, word_or_name, run_len, run_lexeme, opens_bytes, run_piece, word_piece, int_piece, literal_piece, is_last, piece_at}
use Rattle.proc_print.specs.Printed.{op_text, value_text, kind_text}
use Rattle.proc_print.proofs.Spoken.{silent, say_word, say_sign, say_name, op_lexeme, value_lexeme, kind_word}
use Rattle.proc_print.proofs.Lexed.{lex, lex_found, Ends, Closed, Open, closed_closed, closed_open, open_closed, opened}

-- ---- blanks and signs

pub blank : Closed (codes " ") silent
blank = record { tail = λ r f. f; text = λ rest r f. lex_found 32 rest rest piece.Blank refl }

pub line_end : Closed (codes "\n") silent
line_end = record { tail = λ r f. f; text = λ rest r f. lex_found 10 rest rest piece.Newline refl }

one_sign : (b : ℕ) (s : Sign) → ((rest : List ℕ) → piece_at (b ∷ rest) ≡ (piece.Token (lexeme.Sign s), rest)) → Closed (b ∷ []) (say_sign s)
one_sign b s h = record { tail = λ r f. f.2; text = λ rest r f. lex_found b rest rest (piece.Token (lexeme.Sign s)) (h rest) }

pub open_sign : Closed (codes "(") (say_sign sign.Open)
open_sign = one_sign 40 sign.Open (λ rest. refl)

pub close_sign : Closed (codes ")") (say_sign sign.Close)
close_sign = one_sign 41 sign.Close (λ rest. refl)

pub open_brace : Closed (codes "{") (say_sign sign.OpenBrace)
open_brace = one_sign 123 sign.OpenBrace (λ rest. refl)

pub close_brace : Closed (codes "}") (say_sign sign.CloseBrace)
close_brace = one_sign 125 sign.CloseBrace (λ rest. refl)

pub comma : Closed (codes ",") (say_sign sign.Comma)
comma = one_sign 44 sign.Comma (λ rest. refl)

pub semicolon : Closed (codes ";") (say_sign sign.Semicolon)
semicolon = one_sign 59 sign.Semicolon (λ rest. refl)

pub dot : Closed (codes ".") (say_sign sign.Dot)
dot = one_sign 46 sign.Dot (λ rest. refl)

pub minus : Closed (codes "-") (say_sign sign.Minus)
minus = one_sign 45 sign.Minus (λ rest. refl)

-- a sign with a space on either side
spaced_sign : (b : ℕ) (bs : List ℕ) (s : Sign) → ((rest : List ℕ) → piece_at (b ∷ (bs ++ (32 ∷ rest))) ≡ (piece.Token (lexeme.Sign s), 32 ∷ rest))
    → Closed (32 ∷ b ∷ (bs ++ (32 ∷ []))) (say_sign s)
spaced_sign b bs s h = record {
  tail = λ r f. f.2;
  text = λ rest r f.
      lex_found 32 (b ∷ ((bs ++ (32 ∷ [])) ++ rest)) (b ∷ ((bs ++ (32 ∷ [])) ++ rest)) piece.Blank refl
      ∙ ap (λ bs. lex (b ∷ bs)) (append_assoc bs (32 ∷ []) rest)
      ∙ lex_found b (bs ++ (32 ∷ rest)) (32 ∷ rest) (piece.Token (lexeme.Sign s)) (h rest)
      ∙ ap (λ ls. lexeme.Sign s ∷ ls) (lex_found 32 rest rest piece.Blank refl);
}

pub equal : Closed (codes " = ") (say_sign sign.Equal)
equal = spaced_sign 61 [] sign.Equal (λ rest. refl)

-- ---- words and names

no_newline : (b : ℕ) → is_lower_case b ≡ true → (b == newline) ≡ false
no_newline b h = grind (arith, nat_tests)

no_space : (b : ℕ) → is_lower_case b ≡ true → is_space b ≡ false
no_space b h = grind (arith, nat_tests)

no_hash : (b : ℕ) → is_lower_case b ≡ true → (b == hash) ≡ false
no_hash b h = grind (arith, nat_tests)

letters : (b : ℕ) (bs : List ℕ) → is_lower_case b ≡ true → piece_at (b ∷ bs) ≡ word_piece (b ∷ bs)
letters b bs h = rw (no_newline b h, no_space b h, no_hash b h, h) refl

-- a run of name bytes stops where it ends
run_stops : (rest : List ℕ) → Ends rest → run_len rest ≡ 0
run_stops [] e = refl
run_stops (b ∷ bs) e = ap (λ t. cond t (1 + run_len bs) 0) (or_parts (is_name_byte b) (b == quote) e).0

run_all : (bs rest : List ℕ) → list_all is_name_byte bs ≡ true → Ends rest → run_len (bs ++ rest) ≡ length bs
run_all [] rest h e = run_stops rest e
run_all (b ∷ bs) rest h e =
    let parts = and_parts (is_name_byte b) (list_all is_name_byte bs) h in
    let more : run_len (bs ++ rest) ≡ length bs = run_all bs rest parts.1 e in
    ap (λ t. cond t (1 + run_len (bs ++ rest)) 0) parts.0 ∙ omega (arith, more)

-- a letter, and then letters, digits and `_`
abbrev pub is_run : List ℕ → Bool
is_run [] = false
is_run (b ∷ bs) = is_lower_case b && list_all is_name_byte bs

lower_name : (b : ℕ) → is_lower_case b ≡ true → is_name_byte b ≡ true
lower_name b h = grind (arith, nat_tests)

name_no_quote : (b : ℕ) → is_name_byte b ≡ true → (b == quote) ≡ false
name_no_quote b h = grind (arith, nat_tests)

-- no byte string begins where a run of name bytes ends
no_bytes : (b : ℕ) (bs rest : List ℕ) → list_all is_name_byte bs ≡ true → Ends rest → opens_bytes (b ∷ (bs ++ rest)) ≡ false
no_bytes b [] [] h e = refl
no_bytes b [] (r ∷ rest) h e = and_right (b == letter_x) (r == quote) (or_parts (is_name_byte r) (r == quote) e).1
no_bytes b (c ∷ bs) rest h e = and_right (b == letter_x) (c == quote) (name_no_quote c (and_parts (is_name_byte c) (list_all is_name_byte bs) h).0)

take_front : (xs rest : List ℕ) → take (length xs) (xs ++ rest) ≡ xs
take_front xs rest = take-append-le (length xs) xs rest (omega arith) ∙ take_all (length xs) xs (omega arith)

drop_front : (xs rest : List ℕ) → drop (length xs) (xs ++ rest) ≡ rest
drop_front xs rest = drop-append-le (length xs) xs rest (omega arith) ∙ ap (λ ys. ys ++ rest) (drop_all (length xs) xs (omega arith))

abbrev token_before : List ℕ → Lexeme → Found
token_before rest l = (piece.Token l, rest)

abbrev run_before : List ℕ → List ℕ → Found
run_before run rest = (piece.Token (run_lexeme run), rest)

run_found : (run rest : List ℕ) (n : ℕ) → n ≡ length run → run_before (take n (run ++ rest)) (drop n (run ++ rest)) ≡ run_before run rest
run_found run rest n e =
    ap (λ n. run_before (take n (run ++ rest)) (drop n (run ++ rest))) e
    ∙ ap (λ front. run_before front (drop (length run) (run ++ rest))) (take_front run rest)
    ∙ ap (λ back. run_before run back) (drop_front run rest)

run_at : (b : ℕ) (bs rest : List ℕ) → is_run (b ∷ bs) ≡ true → Ends rest → piece_at (b ∷ (bs ++ rest)) ≡ run_before (b ∷ bs) rest
run_at b bs rest h e =
    let parts = and_parts (is_lower_case b) (list_all is_name_byte bs) h in
    let names : list_all is_name_byte (b ∷ bs) ≡ true = ap (λ t. t && list_all is_name_byte bs) (lower_name b parts.0) ∙ parts.1 in
    letters b (bs ++ rest) parts.0
    ∙ ap (λ t. cond t (literal_piece lexeme.Bytes (bytes_at (b ∷ (bs ++ rest)))) (run_piece (b ∷ (bs ++ rest)))) (no_bytes b bs rest parts.1 e)
    ∙ run_found (b ∷ bs) rest (run_len (b ∷ (bs ++ rest))) (run_all (b ∷ bs) rest names e)

-- a run is one token
run_text : (run : List ℕ) (l : Lexeme) (rest : List ℕ) → is_run run ≡ true → run_lexeme run ≡ l → is_last l ≡ false → Ends rest → lex (run ++ rest) ≡ l ∷ lex rest
run_text [] l rest h same last e = absurd cc
run_text (b ∷ bs) l rest h same last e =
    lex_found b (bs ++ rest) rest (piece.Token l) (run_at b bs rest h e ∙ ap (token_before rest) same)
    ∙ ap (λ t. l ∷ cond t [] (lex rest)) last

spelled : (w : Word) → run_lexeme (spelling w) ≡ lexeme.Word w
spelled w = elim w as (λ w. run_lexeme (spelling w) ≡ lexeme.Word w) [ word.Table ↦ refl | _ ↦ refl ]

is_word_run : (w : Word) → is_run (spelling w) ≡ true
is_word_run w = elim w as (λ w. is_run (spelling w) ≡ true) [ word.Table ↦ refl | _ ↦ refl ]

pub word_open : (w : Word) → Open (spelling w) (say_word w)
word_open w = record { tail = λ r f. f.2; text = λ rest r e f. run_text (spelling w) (lexeme.Word w) rest (is_word_run w) (spelled w) refl e }

-- a word before a space
pub keyword : (w : Word) → Closed (spelling w ++ codes " ") (say_word w)
keyword w = open_closed (word_open w) blank (λ rest. refl)

-- a word between spaces
pub inner_word : (w : Word) → Closed (codes " " ++ (spelling w ++ codes " ")) (say_word w)
inner_word w = closed_closed blank (keyword w)

pub kind_open : (k : Kind) → Open (kind_text k) (say_word (kind_word k))
kind_open kind.Int = closed_open blank (word_open word.Int)
kind_open kind.Text = closed_open blank (word_open word.Text)
kind_open kind.Bool = closed_open blank (word_open word.Bool)
kind_open kind.Bytes = closed_open blank (word_open word.Bytes)

name_run : (name : List ℕ) → has_name_form name ≡ true → is_run name ≡ true
name_run [] h = absurd cc
name_run (b ∷ bs) h = (and_parts (is_lower_case b && list_all is_name_byte bs) (nat_lt (length bs) 32) h).0

name_lexeme : (name : List ℕ) → has_name_form name ≡ true → word_in words name ≡ None → run_lexeme name ≡ lexeme.Name name
name_lexeme name h none = ap (λ o. word_or_name o name) none ∙ ap (λ t. cond t (lexeme.Name name) lexeme.Bad) h

pub name_open : (name : Named) → Open name.name (say_name name)
name_open name = record {
  tail = λ r f. f.2;
  text = λ rest r e f. run_text name.name (lexeme.Name name.name) rest (name_run name.name f.0.0) (name_lexeme name.name f.0.0 f.0.1) refl e;
}

-- ---- operators

pub op_closed : (o : Op) → Closed (op_text o) (λ r. op_lexeme o ∷ r)
op_closed op.Or = inner_word word.Or
op_closed op.And = inner_word word.And
op_closed op.Eq = equal
op_closed op.Ne = spaced_sign 33 (61 ∷ []) sign.NotEqual (λ rest. refl)
op_closed op.Lt = spaced_sign 60 [] sign.Less (λ rest. refl)
op_closed op.Le = spaced_sign 60 (61 ∷ []) sign.LessEqual (λ rest. refl)
op_closed op.Gt = spaced_sign 62 [] sign.Greater (λ rest. refl)
op_closed op.Ge = spaced_sign 62 (61 ∷ []) sign.GreaterEqual (λ rest. refl)
op_closed op.Add = spaced_sign 43 [] sign.Plus (λ rest. refl)
op_closed op.Sub = spaced_sign 45 [] sign.Minus (λ rest. refl)
op_closed op.Join = spaced_sign 43 (43 ∷ []) sign.Join (λ rest. refl)
op_closed op.Mul = spaced_sign 42 [] sign.Star (λ rest. refl)
op_closed op.Div = spaced_sign 47 [] sign.Slash (λ rest. refl)
op_closed op.Rem = spaced_sign 37 [] sign.Percent (λ rest. refl)

pub kind_ends : (k : Kind) (more : List ℕ) → Ends (kind_text k ++ more)
kind_ends k more = elim k as (λ k. Ends (kind_text k ++ more)) [ kind.Int ↦ refl | _ ↦ refl ]

pub op_ends : (o : Op) (more : List ℕ) → Ends (op_text o ++ more)
op_ends o more = elim o as (λ o. Ends (op_text o ++ more)) [ op.Or ↦ refl | _ ↦ refl ]

-- ---- literals

digit_no_newline : (b : ℕ) → is_ascii_digit b ≡ true → (b == newline) ≡ false
digit_no_newline b h = grind (arith, nat_tests)

digit_no_space : (b : ℕ) → is_ascii_digit b ≡ true → is_space b ≡ false
digit_no_space b h = grind (arith, nat_tests)

digit_no_hash : (b : ℕ) → is_ascii_digit b ≡ true → (b == hash) ≡ false
digit_no_hash b h = grind (arith, nat_tests)

digit_no_letter : (b : ℕ) → is_ascii_digit b ≡ true → is_lower_case b ≡ false
digit_no_letter b h = grind (arith, nat_tests)

digit_name : (b : ℕ) → is_name_byte b ≡ false → is_ascii_digit b ≡ false
digit_name b h = grind (arith, nat_tests)

digits_at : (b : ℕ) (bs : List ℕ) → is_ascii_digit b ≡ true → piece_at (b ∷ bs) ≡ int_piece (u64_at (b ∷ bs))
digits_at b bs h = rw (digit_no_newline b h, digit_no_space b h, digit_no_hash b h, digit_no_letter b h, h) refl

number_ends : (rest : List ℕ) → Ends rest → starts_no_digit rest ≡ true
number_ends [] e = refl
number_ends (b ∷ bs) e = ap not (digit_name b (or_parts (is_name_byte b) (b == quote) e).0)

digits_text : (ds rest : List ℕ) (n : ℕ) → all_ascii_digits ds ≡ true → 0 < length ds → n < 2 ^ 63 → u64_at (ds ++ rest) ≡ Some (n, rest) → lex (ds ++ rest) ≡ lexeme.Int (pos n) ∷ lex rest
digits_text [] rest n all some low found = absurd (omega (arith, some))
digits_text (d ∷ ds) rest n all some low found =
    lex_found d (ds ++ rest) rest (piece.Token (lexeme.Int (pos n)))
    (digits_at d (ds ++ rest) (and_parts (is_ascii_digit d) (all_ascii_digits ds) all).0 ∙ ap int_piece found
    ∙ ap (λ t. token_before rest (cond t (lexeme.Int (pos n)) lexeme.Bad)) (lt-ltb n (2 ^ 63) low))

number_text : (n : ℕ) (rest : List ℕ) → n < 2 ^ 63 → Ends rest → lex (decimal n ++ rest) ≡ lexeme.Int (pos n) ∷ lex rest
number_text n rest low e =
    let fits : n < 2 ^ 64 = omega (arith, low) in
    digits_text (decimal n) rest n (digits_decimal own n fits) (decimal_nonempty n fits) low (number_again n rest fits (number_ends rest e))

int_open : (n : ℤ) → Open (signed_decimal n) (λ r. lexeme.Int n ∷ r)
int_open (pos n) = record { tail = λ r f. f.2; text = λ rest r e f. number_text n rest f.0 e }
int_open (negsuc n) = record { tail = λ r f. f.2; text = λ rest r e f. absurd f.0 }

pub text_closed : (text : List ℕ) → Closed (text_literal text) (λ r. lexeme.Text text ∷ r)
text_closed text = record {
  tail = λ r f. f.2;
  text = λ rest r f.
      lex_found quote ((flat_map quoted_byte text ++ (quote ∷ [])) ++ rest) rest (piece.Token (lexeme.Text text)) (ap (literal_piece lexeme.Text) (text_again text rest f.0));
}

bytes_closed : (bytes : List ℕ) → Closed (bytes_literal bytes) (λ r. lexeme.Bytes bytes ∷ r)
bytes_closed bytes = record {
  tail = λ r f. f.2;
  text = λ rest r f.
      lex_found letter_x (quote ∷ ((flat_map hex_pair bytes ++ (quote ∷ [])) ++ rest)) rest (piece.Token (lexeme.Bytes bytes))
      (ap (literal_piece lexeme.Bytes) (bytes_again bytes rest f.0.0 f.0.1));
}

pub value_open : (v : Value) → Open (value_text v) (λ r. value_lexeme v ∷ r)
value_open (value.Int n) = int_open n
value_open (value.Text text) = opened (text_closed text)
value_open (value.Bool true) = word_open word.True
value_open (value.Bool false) = word_open word.False
value_open (value.Bytes bytes) = opened (bytes_closed bytes)
