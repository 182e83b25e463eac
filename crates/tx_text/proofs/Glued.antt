-- The lines of bytes that stand after others.
use Rattle.std.proofs.Common.{◌≡◌, ◌<◌, ℕ, List, [], ◌∷◌, ◌++◌, Bool, true, false, cond, length, refl, sym, ◌∙◌, ap, length-append, arith}
use Rattle.std.specs.List.{onto_first}
use Rattle.std.proofs.lemmas.Bool.{lt-ltb, ltb-true}
use Rattle.std.proofs.lemmas.List.Splits.{length-slice_split}
use Rattle.tx_text.specs.Parts.{is_newline, parts_of, onto, is_long}

-- the last of some parts goes on with the first of others
abbrev pub glue : List (List ℕ) → List (List ℕ) → List (List ℕ)
glue [] more = more
glue (last ∷ []) more = onto last more
glue (line ∷ part ∷ parts) more = line ∷ glue (part ∷ parts) more

glue_line : (line : List ℕ) (parts more : List (List ℕ)) → 0 < length parts → glue (line ∷ parts) more ≡ line ∷ glue parts more
glue_line line [] more some = absurd (omega (arith, some))
glue_line line (part ∷ parts) more some = refl

onto_more : (b : ℕ) (last : List ℕ) (more : List (List ℕ)) → onto_first b (onto last more) ≡ onto (b ∷ last) more
onto_more b last [] = refl
onto_more b last (part ∷ parts) = refl

onto_glue : (b : ℕ) (parts more : List (List ℕ)) → 0 < length parts → onto_first b (glue parts more) ≡ glue (onto_first b parts) more
onto_glue b [] more some = absurd (omega (arith, some))
onto_glue b (last ∷ []) more some = onto_more b last more
onto_glue b (line ∷ part ∷ parts) more some = refl

onto_nothing : (more : List (List ℕ)) → 0 < length more → onto [] more ≡ more
onto_nothing [] some = absurd (omega (arith, some))
onto_nothing (part ∷ parts) some = refl

glue_byte : (b : ℕ) (bytes more : List ℕ) (test : Bool) → parts_of (bytes ++ more) ≡ glue (parts_of bytes) (parts_of more)
    → cond test ([] ∷ parts_of (bytes ++ more)) (onto_first b (parts_of (bytes ++ more))) ≡ glue (cond test ([] ∷ parts_of bytes) (onto_first b (parts_of bytes))) (parts_of more)
glue_byte b bytes more true same =
    ap (λ parts. [] ∷ parts) same ∙ sym (glue_line [] (parts_of bytes) (parts_of more) (omega (arith, length-slice_split is_newline bytes)))
glue_byte b bytes more false same = ap (onto_first b) same ∙ onto_glue b (parts_of bytes) (parts_of more) (omega (arith, length-slice_split is_newline bytes))

pub parts_glue : (bytes more : List ℕ) → parts_of (bytes ++ more) ≡ glue (parts_of bytes) (parts_of more)
parts_glue [] more = sym (onto_nothing (parts_of more) (omega (arith, length-slice_split is_newline more)))
parts_glue (b ∷ bs) more = glue_byte b bs more (is_newline b) (parts_glue bs more)

pub glue_some : (parts more : List (List ℕ)) → 0 < length more → 0 < length (glue parts more)
glue_some [] more some = some
glue_some (last ∷ []) [] some = omega arith
glue_some (last ∷ []) (part ∷ parts) some = omega arith
glue_some (line ∷ part ∷ parts) more some = omega arith

pub parts_some : (bytes : List ℕ) → 0 < length (parts_of bytes)
parts_some bytes = omega (arith, length-slice_split is_newline bytes)

-- bytes without a newline before others
pub onto_parts : (rest more : List ℕ) → parts_of rest ≡ rest ∷ [] → onto rest (parts_of more) ≡ parts_of (rest ++ more)
onto_parts rest more one = sym (parts_glue rest more ∙ ap (λ parts. glue parts (parts_of more)) one)

-- a line that is too long stays so, whatever follows
pub longer : (rest part : List ℕ) → is_long rest ≡ true → is_long (rest ++ part) ≡ true
longer rest part long = lt-ltb 4096 (length (rest ++ part)) (omega (arith, ltb-true 4096 (length rest) long, length-append rest part))
