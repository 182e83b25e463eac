-- The application of a load is read and checked, by computation. Whether bytes are UTF-8 does not compute, so the tokens are made by a test of texts
-- that does not ask it of ASCII.
use Rattle.std.proofs.Common.{Bool, List, None, Option, Some, [], ap, cond, false, refl, suc, sym, true, zero, ◌&&◌, ◌==◌, ◌-◌, ◌∙◌, ◌≡◌, ◌≤◌, ◌∷◌, ℕ}
use Rattle.std.proofs.lemmas.Bool.{and_parts, leb-true, ltb-true}
use Rattle.std.proofs.lemmas.Str.{IsUtf8-from_ascii, is_utf8-from_IsUtf8}
use Rattle.std.proofs.lemmas.Str.Ascii.{IsAscii-cons, IsAscii-nil}
use Rattle.std.specs.Char.{is_ascii_digit}
use Rattle.std.specs.List.{list_all, prefix_len}
use Rattle.std.specs.Option.{option_and_then}
use Rattle.std.specs.Prelude.{drop, length, nat_le, nat_lt}
use Rattle.std.specs.Str.{IsAscii}
use Rattle.literals.specs.Number.{u64_at}
use Rattle.literals.specs.Text.{quote, quoted, text_at}
use Rattle.load_gen.proofs.Accounts.{procedures, tables}
use Rattle.load_gen.proofs.Checking.{app_with, fault_by, fault_is}
use Rattle.load_gen.specs.Application.{app_text}
use Rattle.load_gen.specs.Laws.{AppIsSound}
use Rattle.proc_parse.specs.Grammar.{application, tree_of}
use Rattle.proc_parse.specs.Tokens.{Found, hash, int_piece, is_comment, is_space, literal_piece, moved, newline, piece_at, put, sign_piece, start, tokens_in, tokens_of, word_piece}
use Rattle.proc_parse.specs.declared.lexer.Piece.TheVariants as piece
use Rattle.proc_parse.specs.declared.lexer.Position.{Position}
use Rattle.proc_parse.specs.declared.token.Lexeme.TheVariants as lexeme
use Rattle.proc_parse.specs.declared.token.Token.{Token}
use Rattle.rel_base.specs.Reading.{is_text}
use Rattle.rel_base.specs.Text.{has_no_control, is_lower_case}

-- ---- the tokens, by a reader of texts

module _ (text : List ℕ → Option (List ℕ × List ℕ)) where
  abbrev piece_by : List ℕ → Found
  piece_by [] = (piece.Token lexeme.End, [])
  piece_by (b ∷ bs) =
      cond (b == newline) (piece.Newline, bs) (
      cond (is_space b) (piece.Blank, bs) (
      cond (b == hash) (piece.Blank, drop (prefix_len is_comment bs) bs) (
      cond (is_lower_case b) (word_piece (b ∷ bs)) (
      cond (is_ascii_digit b) (int_piece (u64_at (b ∷ bs))) (
      cond (b == quote) (literal_piece lexeme.Text (text (b ∷ bs)))
      (sign_piece (b ∷ bs)))))))

  abbrev tokens_by : ℕ → (total : ℕ) → Position → List ℕ → List Token
  tokens_by zero total place bytes = []
  tokens_by (suc steps) total place bytes =
      put (piece_by bytes).0 place (total - length bytes) (total - length (piece_by bytes).1)
      (tokens_by steps total (moved (piece_by bytes).0 (length bytes - length (piece_by bytes).1) place) (piece_by bytes).1)

same_tokens : (steps total : ℕ) (place : Position) (bytes : List ℕ) → tokens_by text_at steps total place bytes ≡ tokens_in steps total place bytes
same_tokens zero total place bytes = refl
same_tokens (suc steps) total place [] =
    ap (put (piece_at []).0 place (total - length {A = ℕ} []) (total - length (piece_at []).1))
    (same_tokens steps total (moved (piece_at []).0 (length {A = ℕ} [] - length (piece_at []).1) place) (piece_at []).1)
same_tokens (suc steps) total place (b ∷ bs) =
    ap (put (piece_at (b ∷ bs)).0 place (total - length (b ∷ bs)) (total - length (piece_at (b ∷ bs)).1))
    (same_tokens steps total (moved (piece_at (b ∷ bs)).0 (length (b ∷ bs) - length (piece_at (b ∷ bs)).1) place) (piece_at (b ∷ bs)).1)

-- ---- a test of texts that computes on ASCII

abbrev ascii : List ℕ → Bool
ascii bytes = list_all (λ b. nat_lt b 128) bytes

are_ascii : (bytes : List ℕ) → ascii bytes ≡ true → IsAscii bytes
are_ascii [] all = IsAscii-nil
are_ascii (b ∷ bs) all = let parts = and_parts (nat_lt b 128) (ascii bs) all in IsAscii-cons b bs (ltb-true b 128 parts.0) (are_ascii bs parts.1)

abbrev fits : List ℕ → Bool
fits bytes = nat_le (length bytes) 255 && has_no_control bytes

abbrev is_plain : List ℕ → Bool
is_plain bytes = cond (ascii bytes) (fits bytes) (is_text bytes)

plain_is : (bytes : List ℕ) → is_plain bytes ≡ is_text bytes
plain_is bytes = by (ascii bytes) refl
  where
    by : (b : Bool) → ascii bytes ≡ b → cond b (fits bytes) (is_text bytes) ≡ is_text bytes
    by true e = sym (ap (λ utf8. utf8 && fits bytes) (is_utf8-from_IsUtf8 bytes (IsUtf8-from_ascii bytes (are_ascii bytes e))))
    by false e = refl

abbrev where_by : (List ℕ → Bool) → List ℕ × List ℕ → Option (List ℕ × List ℕ)
where_by test found = cond (test found.0) (Some found) None

abbrev text_by : (List ℕ → Bool) → List ℕ → Option (List ℕ × List ℕ)
text_by test [] = None
text_by test (b ∷ bs) = cond (b == quote) (option_and_then (where_by test) (quoted bs)) None

same_text : (bytes : List ℕ) → text_by is_text bytes ≡ text_at bytes
same_text [] = refl
same_text (b ∷ bs) = refl

plain_text : text_by is_plain ≡ text_at
plain_text = ap text_by (λ i bytes. plain_is bytes i) ∙ (λ i bytes. same_text bytes i)

-- ---- the application

abbrev plain_tokens : List ℕ → List Token
plain_tokens text = tokens_by (text_by is_plain) (suc (length text)) (length text) start text

plain_tokens_are : (text : List ℕ) → plain_tokens text ≡ tokens_of text
plain_tokens_are text = ap (λ (reader : List ℕ → Option (List ℕ × List ℕ)). tokens_by reader (suc (length text)) (length text) start text) plain_text ∙ same_tokens (suc (length text)) (length text) start text

-- by computation
read_so : tree_of (application (plain_tokens app_text)) ≡ Some (app_with tables procedures)
unfolding app_text
read_so = refl

checked_so : fault_by tables procedures ≡ None
checked_so = refl

short_text : length app_text ≤ 1048576
unfolding app_text
short_text = leb-true (length app_text) 1048576 refl

pub app_is_sound : AppIsSound
app_is_sound = record {
  app = app_with tables procedures;
  read = ap (λ (tokens : List Token). tree_of (application tokens)) (sym (plain_tokens_are app_text)) ∙ read_so;
  sound = sym (fault_is tables procedures) ∙ checked_so;
  short = short_text;
}
