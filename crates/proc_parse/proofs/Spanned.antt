-- The tokens of a text by their places: no two spans overlap.
use Rattle.std.proofs.Common.{◌≡◌, ◌<◌, ◌≤◌, ◌-◌, ℕ, zero, suc, List, [], ◌∷◌, length, false, Ok, Err, refl, subst, arith}
use Rattle.proc_parse.proofs.Pieces.{piece_less, piece_most}
use Rattle.proc_parse.specs.Spans.{AreApart, Spanned, before, spans_among, spans_of}
use Rattle.proc_parse.specs.Tokens.{ends, piece_at, put, start, tokens_in}
use Rattle.proc_parse.specs.declared.lexer.Piece.{Piece}
use Rattle.proc_parse.specs.declared.lexer.Piece.TheVariants as piece
use Rattle.proc_parse.specs.declared.lexer.Position.{Position}
use Rattle.proc_parse.specs.declared.spans.Token.{Token}
use Rattle.proc_parse.specs.declared.spans.TokenKind.TheVariants as kind
use Rattle.proc_parse.specs.declared.token.Lexeme.TheVariants as lexeme
use Rattle.proc_parse.specs.declared.token.Token.{Token as Lexed}

abbrev IfSpanned : (List Token → Type 0) → Spanned → Type 0
IfSpanned P (Ok tokens) = P tokens
IfSpanned P (Err place) = Unit {0}

apart_lower : (low from : ℕ) (tokens : List Token) → low ≤ from → AreApart from tokens → AreApart low tokens
apart_lower low from [] h a = tt
apart_lower low from (t ∷ ts) h a = (omega (arith, h, a.0), a.1, a.2)

lower : (low from : ℕ) (spanned : Spanned) → low ≤ from → IfSpanned (AreApart from) spanned → IfSpanned (AreApart low) spanned
lower low from (Ok tokens) h a = apart_lower low from tokens h a
lower low from (Err place) h a = tt

first_apart : (t : Token) (from : ℕ) (spanned : Spanned) → from ≤ t.start → t.start < t.end → IfSpanned (AreApart t.end) spanned → IfSpanned (AreApart from) (before (t ∷ []) spanned)
first_apart t from (Ok tokens) h k a = (h, k, a)
first_apart t from (Err place) h k a = tt

module _ (place : Position) (from to : ℕ) (behind : List Lexed) (h : from ≤ to) (a : IfSpanned (AreApart to) (spans_among behind)) where
  put_apart : (p : Piece) → (ends p ≡ false → from < to) → IfSpanned (AreApart from) (spans_among (put p place from to behind))
  put_apart piece.Newline less = lower from to (spans_among behind) h a
  put_apart piece.Blank less = lower from to (spans_among behind) h a
  put_apart (piece.Token (lexeme.Word w)) less =
      first_apart (record { kind = kind.Word; line = place.line; col = place.col; start = from; end = to }) from (spans_among behind) (omega arith) (less refl) a
  put_apart (piece.Token (lexeme.Name n)) less =
      first_apart (record { kind = kind.Name; line = place.line; col = place.col; start = from; end = to }) from (spans_among behind) (omega arith) (less refl) a
  put_apart (piece.Token (lexeme.Int n)) less =
      first_apart (record { kind = kind.Int; line = place.line; col = place.col; start = from; end = to }) from (spans_among behind) (omega arith) (less refl) a
  put_apart (piece.Token (lexeme.Text t)) less =
      first_apart (record { kind = kind.Text; line = place.line; col = place.col; start = from; end = to }) from (spans_among behind) (omega arith) (less refl) a
  put_apart (piece.Token (lexeme.Bytes b)) less =
      first_apart (record { kind = kind.Bytes; line = place.line; col = place.col; start = from; end = to }) from (spans_among behind) (omega arith) (less refl) a
  put_apart (piece.Token (lexeme.Sign s)) less =
      first_apart (record { kind = kind.Sign; line = place.line; col = place.col; start = from; end = to }) from (spans_among behind) (omega arith) (less refl) a
  put_apart (piece.Token lexeme.Bad) less = tt
  put_apart (piece.Token lexeme.End) less = tt

apart_in : (steps total : ℕ) (place : Position) (bytes : List ℕ) → length bytes ≤ total → IfSpanned (AreApart (total - length bytes)) (spans_among (tokens_in steps total place bytes))
apart_in zero total place bytes h = tt
apart_in (suc steps) total place bytes h =
    put_apart place (total - length bytes) (total - length (piece_at bytes).1) _ (omega (arith, piece_most bytes))
    (apart_in steps total _ (piece_at bytes).1 (omega (arith, h, piece_most bytes)))
    (piece_at bytes).0 (λ goes. let less : length (piece_at bytes).1 < length bytes = piece_less bytes goes in omega (arith, h, less))

pub apart_of : (text : List ℕ) (tokens : List Token) → spans_of text ≡ Ok tokens → AreApart 0 tokens
apart_of text tokens e =
    let apart = apart_in (suc (length text)) (length text) start text (omega arith) in
    subst (IfSpanned (AreApart 0)) e (lower 0 (length text - length text) (spans_of text) (omega arith) apart)
