-- Each token of a text has a spelling, and none follows the end.
use Rattle.std.proofs.Common.{◌≡◌, ℕ, zero, suc, ◌<◌, ◌≤◌, ◌+◌, ◌*◌, ◌-◌, ◌^◌, List, [], ◌∷◌, length, take, Bool, true, false, cond, ◌&&◌, ◌==◌, Option, Some, None, refl, arith, pos}
use Rattle.std.specs.Prelude.{nat_lt, nat_le}
use Rattle.std.specs.Char.{is_ascii_digit}
use Rattle.std.specs.List.{AllByRecursion}
use Rattle.std.specs.Option.{option_and_then}
use Rattle.std.proofs.lemmas.Bool.{ltb-true, leb-true}
use Rattle.std.proofs.lemmas.Bool.Decides.{nat_tests}
use Rattle.rel_base.specs.Text.{is_lower_case, has_name_form}
use Rattle.literals.specs.Text.{quote, with_byte, is_text, quoted, where_text, text_at}
use Rattle.literals.specs.Bytes.{letter_x, hex_value, with_pair, pairs, where_short, bytes_at}
use Rattle.literals.specs.Number.{u64_at}
use Rattle.proc_parse.specs.declared.token.Word.{Word}
use Rattle.proc_parse.specs.declared.token.Sign.{Sign}
use Rattle.proc_parse.specs.declared.token.Lexeme.{Lexeme}
use Rattle.proc_parse.specs.declared.token.Lexeme.TheVariants as lexeme
use Rattle.proc_parse.specs.declared.lexer.Piece.{Piece}
use Rattle.proc_parse.specs.declared.lexer.Piece.TheVariants as piece
use Rattle.proc_parse.specs.Words.{words, signs}
use Rattle.proc_parse.specs.Tokens.{Found, newline, is_space, hash, word_in, word_or_name, run_len, run_piece, opens_bytes, word_piece, int_piece, literal_piece, sign_in, sign_or_bad, is_last, piece_at}
use Rattle.proc_print.proofs.Lexed.{plain, lex_in, IsFine, AllFine}

abbrev FinePiece : Piece → Type 0
FinePiece piece.Newline = Unit {0}
FinePiece piece.Blank = Unit {0}
FinePiece (piece.Token l) = IsFine l

-- what holds of what is found, if it is
abbrev IfFound : {A : Type 0} → (A → Type 0) → Option A → Type 0
IfFound P None = Unit {0}
IfFound P (Some x) = P x

either : {A : Type 0} → (P : A → Type 0) (b : Bool) (x y : Option A) → (b ≡ true → IfFound P x) → IfFound P y → IfFound P (cond b x y)
either P true x y h k = h refl
either P false x y h k = k

kept : {A B : Type 0} → (P : A → Type 0) (Q : B → Type 0) (f : A → Option B) → ((x : A) → P x → IfFound Q (f x)) → (o : Option A) → IfFound P o → IfFound Q (option_and_then f o)
kept P Q f h None k = tt
kept P Q f h (Some x) k = h x k

-- ---- texts

abbrev IsTextFound : List ℕ × List ℕ → Type 0
IsTextFound found = is_text found.0 ≡ true

abbrev any : List ℕ × List ℕ → Type 0
any found = Unit {0}

whatever : (o : Option (List ℕ × List ℕ)) → IfFound any o
whatever None = tt
whatever (Some found) = tt

text_found : (bytes : List ℕ) → IfFound IsTextFound (text_at bytes)
text_found [] = tt
text_found (b ∷ bs) = either IsTextFound (b == quote) (option_and_then where_text (quoted bs)) None
    (λ _. kept any IsTextFound where_text (λ found _. either IsTextFound (is_text found.0) (Some found) None (λ e. e) tt) (quoted bs) (whatever (quoted bs))) tt

-- ---- byte strings

abbrev IsLow : List ℕ × List ℕ → Type 0
IsLow found = AllByRecursion (λ b. b < 256) found.0

abbrev IsBytesFound : List ℕ × List ℕ → Type 0
IsBytesFound found = AllByRecursion (λ b. b < 256) found.0 × (length found.0 ≤ 255)

abbrev IsDigit : ℕ → Type 0
IsDigit d = d < 16

hex_low : (a : ℕ) → IfFound IsDigit (hex_value a)
hex_low a = either IsDigit (is_ascii_digit a) (Some (a - 48)) _ (λ e. digit_low a e)
    (either IsDigit (nat_le 97 a && nat_le a 102) (Some (a - 87)) None (λ e. letter_low a e) tt)
  where
    digit_low : (a : ℕ) → is_ascii_digit a ≡ true → a - 48 < 16
    digit_low a e = grind (arith, nat_tests)

    letter_low : (a : ℕ) → (nat_le 97 a && nat_le a 102) ≡ true → a - 87 < 16
    letter_low a e = grind (arith, nat_tests)

byte_low : (b : ℕ) (o : Option (List ℕ × List ℕ)) → b < 256 → IfFound IsLow o → IfFound IsLow (with_byte b o)
byte_low b None h k = tt
byte_low b (Some found) h k = (h, k)

pair_low : (high low : Option ℕ) (o : Option (List ℕ × List ℕ)) → IfFound IsDigit high → IfFound IsDigit low → IfFound IsLow o → IfFound IsLow (with_pair high low o)
pair_low None low o h k p = tt
pair_low (Some high) None o h k p = tt
pair_low (Some high) (Some low) o h k p = byte_low (16 * high + low) o (omega (arith, h, k)) p

pairs_low : (bs : List ℕ) → IfFound IsLow (pairs bs)
pairs_low [] = tt
pairs_low (a ∷ []) = either IsLow (a == quote) (Some ([], [])) None (λ _. tt) tt
pairs_low (a ∷ b ∷ bs) = either IsLow (a == quote) (Some ([], b ∷ bs)) (with_pair (hex_value a) (hex_value b) (pairs bs)) (λ _. tt)
    (pair_low (hex_value a) (hex_value b) (pairs bs) (hex_low a) (hex_low b) (pairs_low bs))

bytes_found : (bytes : List ℕ) → IfFound IsBytesFound (bytes_at bytes)
bytes_found [] = tt
bytes_found (a ∷ []) = tt
bytes_found (a ∷ b ∷ bs) = either IsBytesFound (a == letter_x && b == quote) (option_and_then where_short (pairs bs)) None
    (λ _. kept IsLow IsBytesFound where_short
    (λ found h. either IsBytesFound (nat_le (length found.0) 255) (Some found) None (λ e. (h, leb-true (length found.0) 255 e)) tt) (pairs bs) (pairs_low bs)) tt

-- ---- pieces

either_piece : (b : Bool) (x y : Found) → FinePiece x.0 → FinePiece y.0 → FinePiece (cond b x y).0
either_piece true x y h k = h
either_piece false x y h k = k

fine_literal : (kind : List ℕ → Lexeme) (P : List ℕ × List ℕ → Type 0) → ((found : List ℕ × List ℕ) → P found → IsFine (kind found.0))
    → (o : Option (List ℕ × List ℕ)) → IfFound P o → FinePiece (literal_piece kind o).0
fine_literal kind P h None k = tt
fine_literal kind P h (Some found) k = h found k

fine_int_by : (n : ℕ) (b : Bool) → nat_lt n (2 ^ 63) ≡ b → IsFine (cond b (lexeme.Int (pos n)) lexeme.Bad)
fine_int_by n true e = ltb-true n (2 ^ 63) e
fine_int_by n false e = tt

fine_int : (o : Option (ℕ × List ℕ)) → FinePiece (int_piece o).0
fine_int None = tt
fine_int (Some found) = fine_int_by found.0 (nat_lt found.0 (2 ^ 63)) refl

fine_name : (run : List ℕ) (b : Bool) → has_name_form run ≡ b → word_in words run ≡ None → IsFine (cond b (lexeme.Name run) lexeme.Bad)
fine_name run true e none = (e, none)
fine_name run false e none = tt

fine_run : (run : List ℕ) (o : Option Word) → word_in words run ≡ o → IsFine (word_or_name o run)
fine_run run (Some w) e = tt
fine_run run None e = fine_name run (has_name_form run) refl e

fine_word : (bytes : List ℕ) → FinePiece (word_piece bytes).0
fine_word bytes = either_piece (opens_bytes bytes) (literal_piece lexeme.Bytes (bytes_at bytes)) (run_piece bytes)
    (fine_literal lexeme.Bytes IsBytesFound (λ found h. h) (bytes_at bytes) (bytes_found bytes))
    (fine_run (take (run_len bytes) bytes) (word_in words (take (run_len bytes) bytes)) refl)

fine_sign : (o : Option Sign) (bytes : List ℕ) → FinePiece (sign_or_bad o bytes).0
fine_sign None bytes = tt
fine_sign (Some s) bytes = tt

fine_piece : (bytes : List ℕ) → FinePiece (piece_at bytes).0
fine_piece [] = tt
fine_piece (b ∷ bs) =
    either_piece (b == newline) (piece.Newline, bs) _ tt (
    either_piece (is_space b) (piece.Blank, bs) _ tt (
    either_piece (b == hash) (piece.Blank, _) _ tt (
    either_piece (is_lower_case b) (word_piece (b ∷ bs)) _ (fine_word (b ∷ bs)) (
    either_piece (is_ascii_digit b) (int_piece (u64_at (b ∷ bs))) _ (fine_int (u64_at (b ∷ bs))) (
    either_piece (b == quote) (literal_piece lexeme.Text (text_at (b ∷ bs))) _
    (fine_literal lexeme.Text IsTextFound (λ found h. h) (text_at (b ∷ bs)) (text_found (b ∷ bs)))
    (fine_sign (sign_in signs (b ∷ bs)) (b ∷ bs)))))))

-- ---- texts of tokens

last_ends : (b : Bool) (behind : List Lexeme) → b ≡ true → cond b [] behind ≡ []
last_ends true behind e = refl
last_ends false behind e = absurd cc

fine_behind : (b : Bool) (behind : List Lexeme) → AllFine behind → AllFine (cond b [] behind)
fine_behind true behind h = tt
fine_behind false behind h = h

fine_plain : (p : Piece) (behind : List Lexeme) → FinePiece p → AllFine behind → AllFine (plain p behind)
fine_plain piece.Newline behind h k = k
fine_plain piece.Blank behind h k = k
fine_plain (piece.Token l) behind h k = (h, last_ends (is_last l) behind, fine_behind (is_last l) behind k)

pub all_fine : (steps : ℕ) (bytes : List ℕ) → AllFine (lex_in steps bytes)
all_fine zero bytes = tt
all_fine (suc steps) bytes = fine_plain (piece_at bytes).0 (lex_in steps (piece_at bytes).1) (fine_piece bytes) (all_fine steps (piece_at bytes).1)
