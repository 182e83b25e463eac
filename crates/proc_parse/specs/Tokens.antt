-- The tokens of a text: the longest ones, as far as there are any.
use Rattle.std.specs.Prelude.{◌≡◌, ℕ, zero, suc, pos, List, [], ◌∷◌, ◌+◌, ◌-◌, ◌^◌, length, take, drop, Bool, true, false, cond, not, ◌&&◌, ◌||◌, ◌==◌, nat_eq, nat_lt, Option, Some, None, Result, Ok, Err}
use Rattle.std.specs.Char.{is_ascii_digit}
use Rattle.std.specs.Cmp.Lexicographic.{pointwise}
use Rattle.std.specs.List.{prefix_len, starts_with}
use denote.Bor.{Bor}
use Rattle.rel_base.specs.declared.memory.NoMemory.{NoMemory}
use Rattle.rel_base.specs.Text.{is_lower_case, is_name_byte, has_name_form}
use Rattle.literals.specs.Text.{quote, text_at}
use Rattle.literals.specs.Bytes.{letter_x, bytes_at}
use Rattle.literals.specs.Number.{u64_at}
use Rattle.proc_parse.specs.declared.token.Word.{Word}
use Rattle.proc_parse.specs.declared.token.Sign.{Sign}
use Rattle.proc_parse.specs.declared.token.Lexeme.{Lexeme}
use Rattle.proc_parse.specs.declared.token.Lexeme.TheVariants as lexeme
use Rattle.proc_parse.specs.declared.token.Token.{Token}
use Rattle.proc_parse.specs.declared.lexer.Piece.{Piece}
use Rattle.proc_parse.specs.declared.lexer.Piece.TheVariants as piece
use Rattle.proc_parse.specs.declared.lexer.Position.{Position}
use Rattle.proc_parse.specs.Words.{spelling, words, mark, signs}

-- what stands at the start of some bytes, and the bytes after it
abbrev pub Found : Type 0
Found = Piece × List ℕ

-- ---- words, names and numbers

-- the reserved word that is spelled so
abbrev pub word_in : List Word → List ℕ → Option Word
word_in [] bytes = None
word_in (w ∷ ws) bytes = cond (pointwise nat_eq (spelling w) bytes) (Some w) (word_in ws bytes)

-- how many letters, digits and `_` stand at the start
abbrev pub run_len : List ℕ → ℕ
run_len bytes = prefix_len is_name_byte bytes

-- a reserved word, or else a name, which has at most 32 bytes
abbrev pub word_or_name : Option Word → List ℕ → Lexeme
word_or_name (Some w) run = lexeme.Word w
word_or_name None run = cond (has_name_form run) (lexeme.Name run) lexeme.Bad

abbrev pub run_lexeme : List ℕ → Lexeme
run_lexeme run = word_or_name (word_in words run) run

-- `x"`
abbrev pub opens_bytes : List ℕ → Bool
opens_bytes [] = false
opens_bytes (a ∷ []) = false
opens_bytes (a ∷ b ∷ bs) = a == letter_x && b == quote

abbrev pub run_piece : List ℕ → Found
run_piece bytes = (piece.Token (run_lexeme (take (run_len bytes) bytes)), drop (run_len bytes) bytes)

-- a literal, which is bad where it is not closed or has what it may not have
abbrev pub literal_piece : (List ℕ → Lexeme) → Option (List ℕ × List ℕ) → Found
literal_piece kind None = (piece.Token lexeme.Bad, [])
literal_piece kind (Some found) = (piece.Token (kind found.0), found.1)

abbrev pub word_piece : List ℕ → Found
word_piece bytes = cond (opens_bytes bytes) (literal_piece lexeme.Bytes (bytes_at bytes)) (run_piece bytes)

-- a number of at most 2 ^ 63 - 1, of which no spelling begins with 0 but `0` itself
abbrev pub int_or_bad : ℕ → Lexeme
int_or_bad n = cond (nat_lt n (2 ^ 63)) (lexeme.Int (pos n)) lexeme.Bad

abbrev pub int_piece : Option (ℕ × List ℕ) → Found
int_piece None = (piece.Token lexeme.Bad, [])
int_piece (Some found) = (piece.Token (int_or_bad found.0), found.1)

-- ---- signs

-- the first of these signs that the bytes begin with
abbrev pub sign_in : List Sign → List ℕ → Option Sign
sign_in [] bytes = None
sign_in (s ∷ ss) bytes = cond (starts_with nat_eq bytes (mark s)) (Some s) (sign_in ss bytes)

abbrev pub sign_or_bad : Option Sign → List ℕ → Found
sign_or_bad None bytes = (piece.Token lexeme.Bad, [])
sign_or_bad (Some s) bytes = (piece.Token (lexeme.Sign s), drop (length (mark s)) bytes)

abbrev pub sign_piece : List ℕ → Found
sign_piece bytes = sign_or_bad (sign_in signs bytes) bytes

-- ---- a text

abbrev pub newline : ℕ
newline = 10

-- a space or a tab
abbrev pub is_space : ℕ → Bool
is_space b = b == 32 || b == 9

-- `#`
abbrev pub hash : ℕ
hash = 35

-- ASCII up to the end of the line
abbrev pub is_comment : ℕ → Bool
is_comment b = nat_lt b 128 && not (b == newline)

abbrev pub piece_at : List ℕ → Found
piece_at [] = (piece.Token lexeme.End, [])
piece_at (b ∷ bs) =
    cond (b == newline) (piece.Newline, bs) (
    cond (is_space b) (piece.Blank, bs) (
    cond (b == hash) (piece.Blank, drop (prefix_len is_comment bs) bs) (
    cond (is_lower_case b) (word_piece (b ∷ bs)) (
    cond (is_ascii_digit b) (int_piece (u64_at (b ∷ bs))) (
    cond (b == quote) (literal_piece lexeme.Text (text_at (b ∷ bs)))
    (sign_piece (b ∷ bs)))))))

-- the place after a piece of so many bytes
abbrev pub moved : Piece → ℕ → Position → Position
moved piece.Newline n place = record { line = place.line + 1; col = 1 }
moved piece.Blank n place = record { line = place.line; col = place.col + n }
moved (piece.Token l) n place = record { line = place.line; col = place.col + n }

-- nothing follows the end of the text, and nothing is read after bytes that are no token
abbrev pub is_last : Lexeme → Bool
is_last lexeme.End = true
is_last lexeme.Bad = true
is_last _ = false

abbrev pub ends : Piece → Bool
ends (piece.Token l) = is_last l
ends _ = false

-- a token before those after it
abbrev pub put : Piece → Position → (from to : ℕ) → List Token → List Token
put piece.Newline place from to behind = behind
put piece.Blank place from to behind = behind
put (piece.Token l) place from to behind = record { lexeme = l; line = place.line; col = place.col; start = from; end = to } ∷ cond (is_last l) [] behind

-- the tokens of the last bytes of a text of so many; each piece takes a byte at least, so one step more than there are bytes is enough
abbrev pub tokens_in : ℕ → (total : ℕ) → Position → List ℕ → List Token
tokens_in zero total place bytes = []
tokens_in (suc steps) total place bytes =
    put (piece_at bytes).0 place (total - length bytes) (total - length (piece_at bytes).1)
    (tokens_in steps total (moved (piece_at bytes).0 (length bytes - length (piece_at bytes).1) place) (piece_at bytes).1)

abbrev pub start : Position
start = record { line = 1; col = 1 }

-- the tokens of a text, of which the last is the end or the first that is bad
abbrev pub tokens_of : List ℕ → List Token
tokens_of text = tokens_in (suc (length text)) (length text) start text

-- What a function answers is what is found, unless memory ran out.
abbrev pub Finds : Result (Piece × Bor (List ℕ)) NoMemory → Found → Type 0
Finds (Ok found) meant = meant ≡ (found.0, found.1.now)
Finds (Err e) meant = Unit {0}

-- the tokens after the last one that was read
abbrev pub unless_last : Bool → List Token → List Token
unless_last last behind = cond last [] behind
