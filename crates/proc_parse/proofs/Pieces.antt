-- Each piece of a text takes a byte at least, so the tokens can be read piece by piece.
use Rattle.std.proofs.Common.{◌≡◌, ℕ, zero, suc, ◌<◌, ◌≤◌, ◌+◌, ◌-◌, ◌*◌, List, [], ◌∷◌, ◌++◌, length, take, drop, Bool, true, false, cond, nat_le, nat_lt, ◌^◌, ◌==◌, ◌&&◌, ◌||◌, Option, Some, None, refl, sym, ap, subst, ◌∙◌, arith, length-drop}
use Rattle.std.specs.Char.{is_ascii_digit}
use Rattle.std.specs.List.{prefix_len}
use Rattle.std.specs.Option.{option_and_then}
use Rattle.rel_base.specs.Text.{is_lower_case, is_name_byte}
use Rattle.literals.specs.Text.{quote, backslash, is_escaped, with_byte, quoted, escaped, is_text, where_text, text_at}
use Rattle.literals.specs.Bytes.{letter_x, hex_value, with_pair, pairs, where_short, bytes_at}
use Rattle.literals.specs.Number.{number_after, is_canonical, digits_len, number_at, where_u64, u64_at}
use Rattle.proc_parse.specs.declared.token.Sign.{Sign}
use Rattle.proc_parse.specs.declared.token.Token.{Token}
use Rattle.proc_parse.specs.declared.token.Sign.TheVariants as sign
use Rattle.proc_parse.specs.declared.token.Lexeme.{Lexeme}
use Rattle.proc_parse.specs.declared.token.Lexeme.TheVariants as lexeme
use Rattle.proc_parse.specs.declared.lexer.Piece.{Piece}
use Rattle.proc_parse.specs.declared.lexer.Piece.TheVariants as piece
use Rattle.proc_parse.specs.declared.lexer.Position.{Position}
use Rattle.proc_parse.specs.Words.{mark, signs}
use Rattle.proc_parse.specs.Tokens.{Found, run_piece, opens_bytes, literal_piece, word_piece, int_piece, sign_in, sign_or_bad, newline, is_space, hash, is_comment, piece_at, moved, ends, put, unless_last, tokens_in}

-- what follows what was found has at most so many bytes
abbrev AtMost : {A : Type 0} → ℕ → Option (A × List ℕ) → Type 0
AtMost n None = Unit {0}
AtMost n (Some found) = length found.1 ≤ n

either : {A : Type 0} → (n : ℕ) (b : Bool) (x y : Option (A × List ℕ)) → AtMost n x → AtMost n y → AtMost n (cond b x y)
either n true x y h k = h
either n false x y h k = k

more : {A : Type 0} → (n m : ℕ) (o : Option (A × List ℕ)) → n ≤ m → AtMost n o → AtMost m o
more n m None h k = tt
more n m (Some found) h k = omega (arith, h, k)

most_with_byte : (n b : ℕ) (o : Option (List ℕ × List ℕ)) → AtMost n o → AtMost n (with_byte b o)
most_with_byte n b None h = tt
most_with_byte n b (Some found) h = h

most_kept : {A : Type 0} → (n : ℕ) (f : A × List ℕ → Option (A × List ℕ)) → ((found : A × List ℕ) → length found.1 ≤ n → AtMost n (f found))
    → (o : Option (A × List ℕ)) → AtMost n o → AtMost n (option_and_then f o)
most_kept n f h None k = tt
most_kept n f h (Some found) k = h found k

mutual
  most_quoted : (bs : List ℕ) → AtMost (length bs) (quoted bs)
  most_quoted [] = tt
  most_quoted (b ∷ bs) = either (length (b ∷ bs)) (b == quote) (Some ([], bs)) _ (omega arith)
      (either (length (b ∷ bs)) (b == backslash) (escaped bs) _ (more (length bs) (length (b ∷ bs)) (escaped bs) (omega arith) (most_escaped bs))
      (most_with_byte (length (b ∷ bs)) b (quoted bs) (more (length bs) (length (b ∷ bs)) (quoted bs) (omega arith) (most_quoted bs))))

  most_escaped : (bs : List ℕ) → AtMost (length bs) (escaped bs)
  most_escaped [] = tt
  most_escaped (b ∷ bs) = either (length (b ∷ bs)) (is_escaped b) (with_byte b (quoted bs)) None
      (most_with_byte (length (b ∷ bs)) b (quoted bs) (more (length bs) (length (b ∷ bs)) (quoted bs) (omega arith) (most_quoted bs))) tt

most_text : (b : ℕ) (bs : List ℕ) → AtMost (length bs) (text_at (b ∷ bs))
most_text b bs = either (length bs) (b == quote) _ None
    (most_kept (length bs) where_text (λ found h. either (length bs) (is_text found.0) (Some found) None h tt) (quoted bs) (most_quoted bs)) tt

most_with_pair : (n : ℕ) (high low : Option ℕ) (o : Option (List ℕ × List ℕ)) → AtMost n o → AtMost n (with_pair high low o)
most_with_pair n None low o h = tt
most_with_pair n (Some high) None o h = tt
most_with_pair n (Some high) (Some low) o h = most_with_byte n (16 * high + low) o h

most_pairs : (bs : List ℕ) → AtMost (length bs) (pairs bs)
most_pairs [] = tt
most_pairs (a ∷ []) = either 1 (a == quote) (Some ([], [])) None (omega arith) tt
most_pairs (a ∷ b ∷ bs) = either (length (a ∷ b ∷ bs)) (a == quote) (Some ([], b ∷ bs)) _ (omega arith)
    (most_with_pair (length (a ∷ b ∷ bs)) (hex_value a) (hex_value b) (pairs bs) (more (length bs) (length (a ∷ b ∷ bs)) (pairs bs) (omega arith) (most_pairs bs)))

most_bytes : (b : ℕ) (bs : List ℕ) → AtMost (length bs) (bytes_at (b ∷ bs))
most_bytes a [] = tt
most_bytes a (b ∷ bs) = either (length (b ∷ bs)) (a == letter_x && b == quote) _ None
    (most_kept (length (b ∷ bs)) where_short (λ found h. either (length (b ∷ bs)) (nat_le (length found.0) 255) (Some found) None h tt)
    (pairs bs) (more (length bs) (length (b ∷ bs)) (pairs bs) (omega arith) (most_pairs bs))) tt

-- the first byte is one of those that are dropped
drop_first : (b : ℕ) (bs : List ℕ) (test : Bool) (k : ℕ) → test ≡ true → length (drop (cond test (1 + k) 0) (b ∷ bs)) ≤ length bs
drop_first b bs true k h = omega (arith, length-drop (1 + k) (b ∷ bs))
drop_first b bs false k h = absurd cc

most_number : (b : ℕ) (bs : List ℕ) → is_ascii_digit b ≡ true → AtMost (length bs) (u64_at (b ∷ bs))
most_number b bs d =
    most_kept (length bs) where_u64 (λ found h. either (length bs) (nat_lt found.0 (2 ^ 64)) (Some found) None h tt) (number_at (b ∷ bs))
    (either (length bs) (is_canonical (take (digits_len (b ∷ bs)) (b ∷ bs))) (Some (number_after 0 (take (digits_len (b ∷ bs)) (b ∷ bs)), drop (digits_len (b ∷ bs)) (b ∷ bs))) None
    (drop_first b bs (is_ascii_digit b) (prefix_len is_ascii_digit bs) d) tt)

-- ---- pieces

either_piece : (n : ℕ) (b : Bool) (x y : Found) → (b ≡ true → length x.1 ≤ n) → length y.1 ≤ n → length (cond b x y).1 ≤ n
either_piece n true x y h k = h refl
either_piece n false x y h k = k

most_literal : (n : ℕ) (kind : List ℕ → Lexeme) (o : Option (List ℕ × List ℕ)) → AtMost n o → length (literal_piece kind o).1 ≤ n
most_literal n kind None h = omega arith
most_literal n kind (Some found) h = h

most_int : (n : ℕ) (o : Option (ℕ × List ℕ)) → AtMost n o → length (int_piece o).1 ≤ n
most_int n None h = omega arith
most_int n (Some found) h = h

mark_some : (s : Sign) → 0 < length (mark s)
mark_some s = elim s as (λ s. 0 < length (mark s)) [ sign.Open ↦ omega arith | _ ↦ omega arith ]

most_sign : (b : ℕ) (bs : List ℕ) (o : Option Sign) → length (sign_or_bad o (b ∷ bs)).1 ≤ length bs
most_sign b bs None = omega arith
most_sign b bs (Some s) = omega (arith, length-drop (length (mark s)) (b ∷ bs), mark_some s)

most_run : (b : ℕ) (bs : List ℕ) → is_lower_case b ≡ true → length (run_piece (b ∷ bs)).1 ≤ length bs
most_run b bs h = drop_first b bs (is_name_byte b) (prefix_len is_name_byte bs) (ap (λ l. l || (nat_le 48 b && nat_le b 57) || (b == 95)) h)

-- fewer bytes follow a piece
pub piece_shorter : (b : ℕ) (bs : List ℕ) → length (piece_at (b ∷ bs)).1 ≤ length bs
piece_shorter b bs =
    either_piece (length bs) (b == newline) (piece.Newline, bs) _ (λ _. omega arith) (
    either_piece (length bs) (is_space b) (piece.Blank, bs) _ (λ _. omega arith) (
    either_piece (length bs) (b == hash) (piece.Blank, drop (prefix_len is_comment bs) bs) _ (λ _. omega (arith, length-drop (prefix_len is_comment bs) bs)) (
    either_piece (length bs) (is_lower_case b) (word_piece (b ∷ bs)) _
    (λ h. either_piece (length bs) (opens_bytes (b ∷ bs)) (literal_piece lexeme.Bytes (bytes_at (b ∷ bs))) (run_piece (b ∷ bs)) (λ _. most_literal (length bs) lexeme.Bytes _ (most_bytes b bs)) (most_run b bs h)) (
    either_piece (length bs) (is_ascii_digit b) (int_piece (u64_at (b ∷ bs))) _ (λ d. most_int (length bs) _ (most_number b bs d)) (
    either_piece (length bs) (b == quote) (literal_piece lexeme.Text (text_at (b ∷ bs))) _ (λ _. most_literal (length bs) lexeme.Text _ (most_text b bs))
    (most_sign b bs (sign_in signs (b ∷ bs))))))))

-- ---- what is left after a piece

pub piece_most : (bytes : List ℕ) → length (piece_at bytes).1 ≤ length bytes
piece_most [] = omega arith
piece_most (b ∷ bs) = omega (arith, piece_shorter b bs)

pub piece_less : (bytes : List ℕ) → ends (piece_at bytes).0 ≡ false → length (piece_at bytes).1 < length bytes
piece_less [] h = absurd cc
piece_less (b ∷ bs) h = omega (arith, piece_shorter b bs)

pub found_most : (bytes rest : List ℕ) (p : Piece) → piece_at bytes ≡ (p, rest) → length rest ≤ length bytes
found_most bytes rest p e = subst (λ (found : Found). length found.1 ≤ length bytes) e (piece_most bytes)

pub found_less : (bytes rest : List ℕ) (p : Piece) → piece_at bytes ≡ (p, rest) → ends p ≡ false → length rest < length bytes
found_less bytes rest p e = subst (λ (found : Found). ends found.0 ≡ false → length found.1 < length bytes) e (piece_less bytes)

-- ---- the tokens from a place on

tokens_enough : (n m total : ℕ) (place : Position) (bytes : List ℕ) → length bytes < n → length bytes < m → tokens_in n total place bytes ≡ tokens_in m total place bytes
tokens_enough zero m total place bytes h k = absurd (omega (arith, h))
tokens_enough (suc n) zero total place bytes h k = absurd (omega (arith, k))
tokens_enough (suc n) (suc m) total place [] h k = refl
tokens_enough (suc n) (suc m) total place (b ∷ bs) h k =
    ap (put (piece_at (b ∷ bs)).0 place (total - length (b ∷ bs)) (total - length (piece_at (b ∷ bs)).1))
    (tokens_enough n m total _ (piece_at (b ∷ bs)).1 (omega (arith, piece_shorter b bs, h)) (omega (arith, piece_shorter b bs, k)))

-- the token of a piece, if it has one, and the tokens after it
abbrev add : ℕ → Position → List ℕ → Piece → List ℕ → List Token
add total place bytes p rest =
    put p place (total - length bytes) (total - length rest) (tokens_in (suc (length rest)) total (moved p (length bytes - length rest) place) rest)

tokens_step : (total : ℕ) (place : Position) (bytes : List ℕ) → tokens_in (suc (length bytes)) total place bytes ≡ add total place bytes (piece_at bytes).0 (piece_at bytes).1
tokens_step total place [] = refl
tokens_step total place (b ∷ bs) =
    ap (put (piece_at (b ∷ bs)).0 place (total - length (b ∷ bs)) (total - length (piece_at (b ∷ bs)).1))
    (tokens_enough (length (b ∷ bs)) (suc (length (piece_at (b ∷ bs)).1)) total _ (piece_at (b ∷ bs)).1 (omega (arith, piece_shorter b bs)) (omega arith))

pub found_step : (total : ℕ) (place : Position) (bytes rest : List ℕ) (p : Piece) → piece_at bytes ≡ (p, rest)
    → tokens_in (suc (length bytes)) total place bytes ≡ add total place bytes p rest
found_step total place bytes rest p e = tokens_step total place bytes ∙ ap (λ (found : Found). add total place bytes found.0 found.1) e

pub moved_line : (p : Piece) (n : ℕ) (place : Position) → (p ≡ piece.Newline → 0 < n) → (moved p n place).line ≤ place.line + n
moved_line piece.Newline n place h = omega (arith, h refl)
moved_line piece.Blank n place h = omega arith
moved_line (piece.Token l) n place h = omega arith

pub moved_col : (p : Piece) (n : ℕ) (place : Position) → (p ≡ piece.Newline → 0 < n) → (moved p n place).col ≤ place.col + n
moved_col piece.Newline n place h = omega (arith, h refl)
moved_col piece.Blank n place h = omega arith
moved_col (piece.Token l) n place h = omega arith

pub newline_some : (bytes rest : List ℕ) (p : Piece) → piece_at bytes ≡ (p, rest) → p ≡ piece.Newline → 0 < length bytes - length rest
newline_some bytes rest p e n = omega (arith, found_less bytes rest p e (ap ends n))

-- after a piece that does not end the text, the tokens are those of the rest, and its place has as much room
pub record GoesOn (new all : List Token) (total : ℕ) (next : Position) (rest : List ℕ) : Type 0 where
  pub read : new ++ tokens_in (suc (length rest)) total next rest ≡ all
  pub within : length rest ≤ total
  pub line : next.line + length rest ≤ total + 1
  pub col : next.col + length rest ≤ total + 1

pub goes_on : (old new all : List Token) (last : Bool) (bytes rest : List ℕ) (p : Piece) (total : ℕ) (place next : Position) → piece_at bytes ≡ (p, rest)
    → next ≡ moved p (length bytes - length rest) place → last ≡ false
    → ((behind : List Token) → old ++ put p place (total - length bytes) (total - length rest) behind ≡ new ++ unless_last last behind)
    → GoesOn old all total place bytes → GoesOn new all total next rest
goes_on old new all last bytes rest p total place next e m l h was = record {
  read =
      ap (λ last. new ++ unless_last last (tokens_in (suc (length rest)) total next rest)) (sym l)
      ∙ sym (h (tokens_in (suc (length rest)) total next rest))
      ∙ ap (λ next. old ++ put p place (total - length bytes) (total - length rest) (tokens_in (suc (length rest)) total next rest)) m
      ∙ ap (λ ts. old ++ ts) (sym (found_step total place bytes rest p e))
      ∙ was.read;
  within = omega (arith, found_most bytes rest p e, was.within);
  line = omega (arith, ap (λ (x : Position). x.line) m, moved_line p (length bytes - length rest) place (newline_some bytes rest p e), found_most bytes rest p e, was.line);
  col = omega (arith, ap (λ (x : Position). x.col) m, moved_col p (length bytes - length rest) place (newline_some bytes rest p e), found_most bytes rest p e, was.col);
}
