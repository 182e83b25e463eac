-- What is read of whole bytes.
use Rattle.std.proofs.Common.{◌≡◌, ◌++◌, ◌∷◌, List, [], true, false, Err, Some, ap, arith, length, refl, sym, ◌∙◌, ℕ}
use Rattle.std.specs.Prelude.{◌==◌}
use Rattle.std.proofs.lemmas.Bool.{eqb-true}
use Rattle.std.proofs.lemmas.List.{append-nil}
use Rattle.std.proofs.lemmas.Option.{none-some, some_pair_parts}
use Rattle.canon_code.proofs.Exact.{IsExact}
use Rattle.canon_code.specs.Codes.{AreBytes}
use Rattle.canon_code.specs.Reads.{Reads}
use Rattle.rel_base.specs.declared.reading.ReadFault.TheVariants as fault
use Rattle.rel_base.specs.declared.reading.ReadFault.{ReadFault}
use Rattle.block_digest.specs.Decoding.{Decodes}
use Rattle.block_digest.specs.Joined.{Reading}

none_left : (rest : List ℕ) → (length rest == 0) ≡ true → rest ≡ []
none_left [] none = refl
none_left (byte ∷ rest) none = absurd (omega (arith, eqb-true (length (byte ∷ rest)) 0 none))

some_left : (rest : List ℕ) → (length rest == 0) ≡ false → rest ≡ [] → ⊥
some_left rest some none = let empty : (length rest == 0) ≡ true = ap (λ xs. length xs == 0) none in cc

-- nothing is left: the bytes are the code
pub whole_found : {A : Type 0} (code : A → List ℕ) (HasCode : A → Type 0) (reading : Reading A) → IsExact code HasCode reading
    → (bytes : List ℕ) (x : A) (rest : List ℕ) → AreBytes bytes → reading bytes ≡ Some (x, rest) → (length rest == 0) ≡ true → HasCode x × (code x ≡ bytes)
whole_found code HasCode reading exact bytes x rest fits e none =
    let found = exact.written bytes x rest fits e in
    (found.0, sym (append-nil (code x)) ∙ ap (λ xs. code x ++ xs) (sym (none_left rest none)) ∙ sym found.1)

-- a code is read to its end
whole_read : {A : Type 0} (code : A → List ℕ) (HasCode : A → Type 0) (reading : Reading A) → IsExact code HasCode reading
    → (bytes : List ℕ) (x : A) → HasCode x → code x ≡ bytes → reading bytes ≡ Some (x, [])
whole_read code HasCode reading exact bytes x has e = ap reading (sym e ∙ sym (append-nil (code x))) ∙ exact.back x [] has

-- where bytes are left, no code is the whole
pub whole_left : {A : Type 0} (code : A → List ℕ) (HasCode : A → Type 0) (reading : Reading A) → IsExact code HasCode reading
    → (bytes : List ℕ) (x : A) (rest : List ℕ) → reading bytes ≡ Some (x, rest) → (length rest == 0) ≡ false → (y : A) → HasCode y → code y ≡ bytes → ⊥
whole_left code HasCode reading exact bytes x rest e some y has coded =
    some_left rest some (some_pair_parts x y rest [] (sym e ∙ whole_read code HasCode reading exact bytes y has coded)).1

-- where nothing is read, no code is the whole
pub whole_none : {A : Type 0} (code : A → List ℕ) (HasCode : A → Type 0) (reading : Reading A) → IsExact code HasCode reading
    → (bytes : List ℕ) (e : ReadFault) → Reads {A = A} (Err e) (reading bytes) → Decodes code HasCode bytes (Err e)
whole_none code HasCode reading exact bytes fault.NoMemory none = tt
whole_none code HasCode reading exact bytes fault.Bad none = λ y has coded. none-some (y, []) (sym none ∙ whole_read code HasCode reading exact bytes y has coded)
