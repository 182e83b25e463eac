-- The laws of a code.
use Rattle.std.specs.Prelude.{◌≡◌, ◌++◌, ℕ, List, Option, Some}
use Rattle.canon_code.specs.Codes.{AreBytes}

-- two things with one code are one
abbrev pub IsOneToOne : {A : Type 0} → (A → List ℕ) → (A → Type 0) → Type 0
IsOneToOne {A} code HasCode = (x y : A) → HasCode x → HasCode y → code x ≡ code y → x ≡ y

-- no code begins another: what follows does not blur where a code ends
abbrev pub IsPrefixFree : {A : Type 0} → (A → List ℕ) → (A → Type 0) → Type 0
IsPrefixFree {A} code HasCode = (x y : A) (after_x after_y : List ℕ) → HasCode x → HasCode y → code x ++ after_x ≡ code y ++ after_y → (x ≡ y) × (after_x ≡ after_y)

-- what is written is read back, whatever follows it
abbrev pub ComesBack : {A : Type 0} → (A → List ℕ) → (A → Type 0) → (List ℕ → Option (A × List ℕ)) → Type 0
ComesBack {A} code HasCode reading = (x : A) (rest : List ℕ) → HasCode x → reading (code x ++ rest) ≡ Some (x, rest)

-- and what is read was written so
abbrev pub WasWritten : {A : Type 0} → (A → List ℕ) → (A → Type 0) → (List ℕ → Option (A × List ℕ)) → Type 0
WasWritten {A} code HasCode reading = (bytes : List ℕ) (x : A) (rest : List ℕ) → AreBytes bytes → reading bytes ≡ Some (x, rest) → HasCode x × (bytes ≡ code x ++ rest)
