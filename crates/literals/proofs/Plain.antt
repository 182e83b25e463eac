-- A text in quotes in which no byte is escaped.
use Rattle.std.proofs.Common.{◌≡◌, ◌<◌, ◌+◌, ◌-◌, ℕ, suc, List, [], ◌∷◌, Bool, true, false, cond, Option, Some, length, take, drop, get_or, refl, sym, ◌∙◌, ap, subst, arith, length-drop}
use Rattle.std.specs.Prelude.{not, ◌==◌}
use Rattle.std.specs.List.{position_or_len}
use Rattle.std.proofs.lemmas.List.{take_all}
use Rattle.literals.specs.Text.{quote, backslash, is_escaped, with_byte, quoted, escaped}
use Rattle.literals.proofs.Again.{third}

-- up to this place the bytes stand as they are, and there the quote stands
abbrev found_at : List ℕ → ℕ → Option (List ℕ × List ℕ)
found_at bs n = Some (take n bs, drop (suc n) bs)

grows : (b : ℕ) (bs : List ℕ) (n : ℕ) (test : Bool) → is_escaped b ≡ test → cond (not test) (1 + n) 0 < length (b ∷ bs) → get_or (b ∷ bs) (cond (not test) (1 + n) 0) 0 ≡ quote
    → (n < length bs → get_or bs n 0 ≡ quote → quoted bs ≡ found_at bs n) → quoted (b ∷ bs) ≡ found_at (b ∷ bs) (cond (not test) (1 + n) 0)
grows b bs n true e inside is rest = subst (λ (x : ℕ). quoted (x ∷ bs) ≡ Some ([], bs)) (sym is) refl
grows b bs n false e inside is rest =
    let one : 1 + n ≡ suc n = omega arith in
    let here : get_or bs n 0 ≡ quote = ap (λ (k : ℕ). get_or (b ∷ bs) k 0) (sym one) ∙ is in
    third (b == quote) (b == backslash) (Some ([], bs)) (escaped bs) (with_byte b (quoted bs)) e
    ∙ ap (with_byte b) (rest (omega (arith, inside)) here)
    ∙ ap (found_at (b ∷ bs)) (sym one)

first_quote : (bs : List ℕ) → position_or_len is_escaped bs < length bs → get_or bs (position_or_len is_escaped bs) 0 ≡ quote → quoted bs ≡ found_at bs (position_or_len is_escaped bs)
first_quote [] inside is = absurd (omega (arith, inside))
first_quote (b ∷ bs) inside is = grows b bs (position_or_len is_escaped bs) (is_escaped b) refl inside is (first_quote bs)

pub plain_found : (bs : List ℕ) (i : ℕ) → i ≡ position_or_len is_escaped bs → i < length bs → get_or bs i 0 ≡ quote → quoted bs ≡ Some (take i bs, take (length bs - (i + 1)) (drop (i + 1) bs))
plain_found bs i e inside is =
    let next : suc i ≡ i + 1 = omega arith in
    first_quote bs (omega (arith, e, inside)) (ap (λ (k : ℕ). get_or bs k 0) (sym e) ∙ is)
    ∙ ap (found_at bs) (sym e)
    ∙ ap (λ (k : ℕ). Some (take i bs, drop k bs)) next
    ∙ ap (λ (left : List ℕ). Some (take i bs, left)) (sym (take_all (length bs - (i + 1)) (drop (i + 1) bs) (omega (arith, length-drop (i + 1) bs))))
