-- The first newline of bytes, by a search of the whole.
use Rattle.std.proofs.Common.{◌≡◌, ℕ, List, Some, None, length, arith}
use Rattle.std.specs.List.{position_or_len}
use Rattle.std.proofs.lemmas.List.Sums.{position_or_len_is}
use Rattle.memchr.specs.Find.{IsFirstByte, is_byte}
use Rattle.rel_base.proofs.Bits.{not_true}
use Rattle.tx_text.specs.Parts.{is_newline}

pub no_newline : (bs : List ℕ) → IsFirstByte (is_byte 10) bs None → position_or_len is_newline bs ≡ length bs
no_newline bs none = position_or_len_is is_newline bs (length bs) 0 (omega arith) (λ k low. not_true _ (none k (omega arith) low)) (λ low. absurd (omega (arith, low)))

pub first_newline : (bs : List ℕ) (at : ℕ) → IsFirstByte (is_byte 10) bs (Some at) → position_or_len is_newline bs ≡ at
first_newline bs at found =
    position_or_len_is is_newline bs at 0 (omega (arith, found.0.high)) (λ k low. not_true _ (found.0.before k (omega arith) low)) (λ low. found.1)
