-- What follows a literal is no longer than the bytes that it stands before.
use Rattle.std.proofs.Common.{◌≤◌, ◌+◌, ◌*◌, ℕ, List, [], ◌∷◌, Bool, true, false, cond, Option, Some, None, length, drop, take, arith, length-drop}
use Rattle.std.specs.Prelude.{◌==◌, ◌&&◌, nat_le}
use Rattle.std.specs.Option.{option_and_then}
use Rattle.literals.specs.Text.{quote, backslash, is_escaped, is_text, with_byte, quoted, escaped, where_text, text_at}
use Rattle.literals.specs.Bytes.{letter_x, hex_value, with_pair, pairs, where_short, bytes_at}
use Rattle.literals.specs.Number.{digits_len, is_canonical, number_after, number_at, where_u64, u64_at}

-- at most n bytes follow what was found
abbrev pub RestWithin : {A : Type 0} → ℕ → Option (A × List ℕ) → Type 0
RestWithin n None = Unit {0}
RestWithin n (Some found) = length found.1 ≤ n

pub within_more : {A : Type 0} (m n : ℕ) (found : Option (A × List ℕ)) → m ≤ n → RestWithin m found → RestWithin n found
within_more m n None le h = tt
within_more m n (Some found) le h = omega (arith, h, le)

pub within_cond : {A : Type 0} (n : ℕ) (b : Bool) (x y : Option (A × List ℕ)) → RestWithin n x → RestWithin n y → RestWithin n (cond b x y)
within_cond n true x y hx hy = hx
within_cond n false x y hx hy = hy

within_byte : (n b : ℕ) (found : Option (List ℕ × List ℕ)) → RestWithin n found → RestWithin n (with_byte b found)
within_byte n b None h = tt
within_byte n b (Some found) h = h

mutual
  quoted_within : (bs : List ℕ) → RestWithin (length bs) (quoted bs)
  quoted_within [] = tt
  quoted_within (b ∷ bs) = within_cond (length (b ∷ bs)) (b == quote) _ _ (omega arith)
      (within_cond (length (b ∷ bs)) (b == backslash) _ _ (within_more (length bs) _ (escaped bs) (omega arith) (escaped_within bs))
      (within_more (length bs) _ (with_byte b (quoted bs)) (omega arith) (within_byte (length bs) b (quoted bs) (quoted_within bs))))

  escaped_within : (bs : List ℕ) → RestWithin (length bs) (escaped bs)
  escaped_within [] = tt
  escaped_within (b ∷ bs) = within_cond (length (b ∷ bs)) (is_escaped b) _ None (within_more (length bs) _ (with_byte b (quoted bs)) (omega arith) (within_byte (length bs) b (quoted bs) (quoted_within bs))) tt

within_text : (n : ℕ) (found : Option (List ℕ × List ℕ)) → RestWithin n found → RestWithin n (option_and_then where_text found)
within_text n None h = tt
within_text n (Some found) h = within_cond n (is_text found.0) (Some found) None h tt

pub text_within : (bs : List ℕ) → RestWithin (length bs) (text_at bs)
text_within [] = tt
text_within (b ∷ bs) = within_cond (length (b ∷ bs)) (b == quote) _ None (within_more (length bs) _ (option_and_then where_text (quoted bs)) (omega arith) (within_text _ _ (quoted_within bs))) tt

within_pair : (n : ℕ) (high low : Option ℕ) (found : Option (List ℕ × List ℕ)) → RestWithin n found → RestWithin n (with_pair high low found)
within_pair n None low found h = tt
within_pair n (Some a) None found h = tt
within_pair n (Some a) (Some b) found h = within_byte n (16 * a + b) found h

pairs_within : (bs : List ℕ) → RestWithin (length bs) (pairs bs)
pairs_within [] = tt
pairs_within (a ∷ []) = within_cond 1 (a == quote) (Some ([], [])) None (omega arith) tt
pairs_within (a ∷ b ∷ bs) = within_cond (length (a ∷ b ∷ bs)) (a == quote) (Some ([], b ∷ bs)) _ (omega arith)
    (within_more (length bs) _ (with_pair (hex_value a) (hex_value b) (pairs bs)) (omega arith) (within_pair (length bs) (hex_value a) (hex_value b) (pairs bs) (pairs_within bs)))

within_short : (n : ℕ) (found : Option (List ℕ × List ℕ)) → RestWithin n found → RestWithin n (option_and_then where_short found)
within_short n None h = tt
within_short n (Some found) h = within_cond n (nat_le (length found.0) 255) (Some found) None h tt

pub bytes_within : (bs : List ℕ) → RestWithin (length bs) (bytes_at bs)
bytes_within [] = tt
bytes_within (a ∷ []) = tt
bytes_within (a ∷ b ∷ bs) = within_cond (length (a ∷ b ∷ bs)) (a == letter_x && b == quote) _ None
    (within_more (length bs) _ (option_and_then where_short (pairs bs)) (omega arith) (within_short _ _ (pairs_within bs))) tt

within_u64 : (n : ℕ) (found : Option (ℕ × List ℕ)) → RestWithin n found → RestWithin n (option_and_then where_u64 found)
within_u64 n None h = tt
within_u64 n (Some found) h = within_cond n _ (Some found) None h tt

pub u64_within : (bs : List ℕ) → RestWithin (length bs) (u64_at bs)
u64_within bs = within_u64 (length bs) (number_at bs) (within_cond (length bs) (is_canonical (take (digits_len bs) bs)) (Some (number_after 0 (take (digits_len bs) bs), drop (digits_len bs) bs)) None (omega (arith, length-drop (digits_len bs) bs)) tt)
