-- The lexemes of a text, without their places, and texts that have the lexemes of a tree.
use Rattle.std.proofs.Common.{◌≡◌, ℕ, zero, suc, ◌<◌, ◌≤◌, List, [], ◌∷◌, ◌++◌, length, ◌-◌, Bool, true, false, cond, ◌||◌, ◌==◌, ◌^◌, None, refl, ap, ◌∙◌, arith, append_assoc, pos, negsuc}
use Rattle.std.specs.Prelude.{ℤ}
use Rattle.std.specs.List.{AllByRecursion}
use Rattle.rel_base.specs.Text.{is_name_byte, has_name_form}
use Rattle.literals.specs.Text.{quote, is_text}
use Rattle.proc_parse.specs.declared.token.Token.{Token}
use Rattle.proc_parse.specs.declared.token.Lexeme.{Lexeme}
use Rattle.proc_parse.specs.declared.token.Lexeme.TheVariants as lexeme
use Rattle.proc_parse.specs.declared.lexer.Piece.{Piece}
use Rattle.proc_parse.specs.declared.lexer.Piece.TheVariants as piece
use Rattle.proc_parse.specs.declared.lexer.Position.{Position}
use Rattle.proc_parse.specs.Words.{words}
use Rattle.proc_parse.specs.Tokens.{word_in, piece_at, moved, is_last, put, tokens_in, tokens_of, start}
use Rattle.proc_parse.proofs.Pieces.{piece_shorter}
use Rattle.proc_print.proofs.Spoken.{Spoken, silent}
use Rattle.proc_print.specs.Laws.{lexemes}

-- a lexeme before those after it
abbrev pub plain : Piece → List Lexeme → List Lexeme
plain piece.Newline behind = behind
plain piece.Blank behind = behind
plain (piece.Token l) behind = l ∷ cond (is_last l) [] behind

abbrev pub lex_in : ℕ → List ℕ → List Lexeme
lex_in zero bytes = []
lex_in (suc steps) bytes = plain (piece_at bytes).0 (lex_in steps (piece_at bytes).1)

abbrev pub lex : List ℕ → List Lexeme
lex bytes = lex_in (suc (length bytes)) bytes

lexemes_cond : (b : Bool) (ts : List Token) → lexemes (cond b [] ts) ≡ cond b [] (lexemes ts)
lexemes_cond true ts = refl
lexemes_cond false ts = refl

lexemes_put : (p : Piece) (place : Position) (from to : ℕ) (behind : List Token) → lexemes (put p place from to behind) ≡ plain p (lexemes behind)
lexemes_put piece.Newline place from to behind = refl
lexemes_put piece.Blank place from to behind = refl
lexemes_put (piece.Token l) place from to behind = ap (λ ls. l ∷ ls) (lexemes_cond (is_last l) behind)

lexed : (steps total : ℕ) (place : Position) (bytes : List ℕ) → lexemes (tokens_in steps total place bytes) ≡ lex_in steps bytes
lexed zero total place bytes = refl
lexed (suc steps) total place bytes =
    lexemes_put (piece_at bytes).0 place (total - length bytes) (total - length (piece_at bytes).1)
    (tokens_in steps total (moved (piece_at bytes).0 (length bytes - length (piece_at bytes).1) place) (piece_at bytes).1)
    ∙ ap (plain (piece_at bytes).0) (lexed steps total (moved (piece_at bytes).0 (length bytes - length (piece_at bytes).1) place) (piece_at bytes).1)

pub lexemes_of : (text : List ℕ) → lexemes (tokens_of text) ≡ lex text
lexemes_of text = lexed (suc (length text)) (length text) start text

lex_enough : (n m : ℕ) (bytes : List ℕ) → length bytes < n → length bytes < m → lex_in n bytes ≡ lex_in m bytes
lex_enough zero m bytes h k = absurd (omega (arith, h))
lex_enough (suc n) zero bytes h k = absurd (omega (arith, k))
lex_enough (suc n) (suc m) [] h k = refl
lex_enough (suc n) (suc m) (b ∷ bs) h k =
    ap (plain (piece_at (b ∷ bs)).0) (lex_enough n m (piece_at (b ∷ bs)).1 (omega (arith, piece_shorter b bs, h)) (omega (arith, piece_shorter b bs, k)))

lex_step : (b : ℕ) (bs : List ℕ) → lex (b ∷ bs) ≡ plain (piece_at (b ∷ bs)).0 (lex (piece_at (b ∷ bs)).1)
lex_step b bs = ap (plain (piece_at (b ∷ bs)).0)
    (lex_enough (length (b ∷ bs)) (suc (length (piece_at (b ∷ bs)).1)) (piece_at (b ∷ bs)).1 (omega (arith, piece_shorter b bs)) (omega arith))

pub lex_found : (b : ℕ) (bs rest : List ℕ) (p : Piece) → piece_at (b ∷ bs) ≡ (p, rest) → lex (b ∷ bs) ≡ plain p (lex rest)
lex_found b bs rest p e = lex_step b bs ∙ ap (λ (found : Piece × List ℕ). plain found.0 (lex found.1)) e

-- ---- which lexemes have a spelling

abbrev pub IsInt : ℤ → Type 0
IsInt (pos n) = n < 2 ^ 63
IsInt (negsuc n) = ⊥

abbrev pub IsFine : Lexeme → Type 0
IsFine (lexeme.Name name) = (has_name_form name ≡ true) × (word_in words name ≡ None)
IsFine (lexeme.Int n) = IsInt n
IsFine (lexeme.Text text) = is_text text ≡ true
IsFine (lexeme.Bytes bytes) = AllByRecursion (λ b. b < 256) bytes × (length bytes ≤ 255)
IsFine _ = Unit {0}

-- each has a spelling, and none follows the end
abbrev pub AllFine : List Lexeme → Type 0
AllFine [] = Unit {0}
AllFine (l ∷ ls) = IsFine l × (is_last l ≡ true → ls ≡ []) × AllFine ls

-- no name, no number and no quote goes on here
abbrev pub Ends : List ℕ → Type 0
Ends [] = Unit {0}
Ends (b ∷ bs) = (is_name_byte b || (b == quote)) ≡ false

-- ---- texts of lexemes

-- some bytes have the lexemes that are said, if those have a spelling, whatever follows
pub record Closed (bytes : List ℕ) (say : Spoken) : Type 0 where
  pub tail : (r : List Lexeme) → AllFine (say r) → AllFine r
  pub text : (rest : List ℕ) (r : List Lexeme) → AllFine (say r) → lex (bytes ++ rest) ≡ say (lex rest)

-- the same where what follows is no part of their last lexeme
pub record Open (bytes : List ℕ) (say : Spoken) : Type 0 where
  pub tail : (r : List Lexeme) → AllFine (say r) → AllFine r
  pub text : (rest : List ℕ) (r : List Lexeme) → Ends rest → AllFine (say r) → lex (bytes ++ rest) ≡ say (lex rest)

pub closed_closed : {a b : List ℕ} {s t : Spoken} → Closed a s → Closed b t → Closed (a ++ b) (λ r. s (t r))
closed_closed {a = a} {b = b} {s = s} {t = t} ha hb = record {
  tail = λ r f. hb.tail r (ha.tail (t r) f);
  text = λ rest r f. ap lex (append_assoc a b rest) ∙ ha.text (b ++ rest) (t r) f ∙ ap s (hb.text rest r (ha.tail (t r) f));
}

pub closed_open : {a b : List ℕ} {s t : Spoken} → Closed a s → Open b t → Open (a ++ b) (λ r. s (t r))
closed_open {a = a} {b = b} {s = s} {t = t} ha hb = record {
  tail = λ r f. hb.tail r (ha.tail (t r) f);
  text = λ rest r k f. ap lex (append_assoc a b rest) ∙ ha.text (b ++ rest) (t r) f ∙ ap s (hb.text rest r k (ha.tail (t r) f));
}

pub open_closed : {a b : List ℕ} {s t : Spoken} → Open a s → Closed b t → ((rest : List ℕ) → Ends (b ++ rest)) → Closed (a ++ b) (λ r. s (t r))
open_closed {a = a} {b = b} {s = s} {t = t} ha hb e = record {
  tail = λ r f. hb.tail r (ha.tail (t r) f);
  text = λ rest r f. ap lex (append_assoc a b rest) ∙ ha.text (b ++ rest) (t r) (e rest) f ∙ ap s (hb.text rest r (ha.tail (t r) f));
}

pub open_open : {a b : List ℕ} {s t : Spoken} → Open a s → Open b t → ((rest : List ℕ) → Ends rest → Ends (b ++ rest)) → Open (a ++ b) (λ r. s (t r))
open_open {a = a} {b = b} {s = s} {t = t} ha hb e = record {
  tail = λ r f. hb.tail r (ha.tail (t r) f);
  text = λ rest r k f. ap lex (append_assoc a b rest) ∙ ha.text (b ++ rest) (t r) (e rest k) f ∙ ap s (hb.text rest r k (ha.tail (t r) f));
}

pub opened : {a : List ℕ} {s : Spoken} → Closed a s → Open a s
opened ha = record { tail = ha.tail; text = λ rest r k f. ha.text rest r f }

pub closed_none : Closed [] silent
closed_none = record { tail = λ r f. f; text = λ rest r f. refl }
