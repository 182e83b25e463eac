-- The parts between newlines, taken one at a time.
use Rattle.std.proofs.Common.{◌≡◌, ◌<◌, ◌+◌, ◌-◌, ℕ, List, [], ◌∷◌, Bool, true, false, cond, length, take, drop, refl, sym, ◌∙◌, ap, arith, length-drop}
use Rattle.std.specs.Prelude.{not}
use Rattle.std.specs.List.{onto_first, position_or_len}
use Rattle.std.proofs.lemmas.List.{take_all}
use Rattle.std.proofs.lemmas.List.Splits.{slice_split_first}
use Rattle.tx_text.specs.Parts.{is_newline, parts_of}

-- a byte that is no newline goes before the one part of the rest
part_grows : (b : ℕ) (bs : List ℕ) (n : ℕ) (test : Bool) → cond (not test) (1 + n) 0 ≡ length (b ∷ bs) → (n ≡ length bs → parts_of bs ≡ bs ∷ []) → cond test ([] ∷ parts_of bs) (onto_first b (parts_of bs)) ≡ (b ∷ bs) ∷ []
part_grows b bs n true e rest = absurd (omega (arith, e))
part_grows b bs n false e rest = ap (onto_first b) (rest (omega (arith, e)))

-- bytes without a newline are the one part
pub only_part : (bs : List ℕ) → position_or_len is_newline bs ≡ length bs → parts_of bs ≡ bs ∷ []
only_part [] at = refl
only_part (b ∷ bs) at = part_grows b bs (position_or_len is_newline bs) (is_newline b) at (only_part bs)

-- the first line, and the parts of what follows its newline
pub first_part : (bs : List ℕ) (i : ℕ) → i ≡ position_or_len is_newline bs → i < length bs → parts_of bs ≡ take i bs ∷ parts_of (take (length bs - (i + 1)) (drop (i + 1) bs))
first_part bs i e inside =
    let within : position_or_len is_newline bs < length bs = omega (arith, e, inside) in
    slice_split_first is_newline bs 0 within
    ∙ ap (λ k. take k bs ∷ parts_of (drop (k + 1) bs)) (sym e)
    ∙ ap (λ rest. take i bs ∷ parts_of rest) (sym (take_all (length bs - (i + 1)) (drop (i + 1) bs) (omega (arith, length-drop (i + 1) bs))))
