-- What a reader answers, against the codes.
use Rattle.std.specs.Prelude.{◌≡◌, ◌++◌, ℕ, List, length, take, Result, Ok, Err}
use denote.Bor.{Bor}
use Rattle.rel_base.specs.declared.reading.ReadFault.{ReadFault}
use Rattle.rel_base.specs.declared.reading.ReadFault.TheVariants as fault
pub use Rattle.rel_base.specs.Reading.{Reads, Gives}

-- bytes that were read in place
abbrev pub slice_of : Result (Bor (List ℕ) × Bor (List ℕ)) ReadFault → Result (List ℕ × Bor (List ℕ)) ReadFault
slice_of (Ok found) = Ok (found.0.now, found.1)
slice_of (Err fault) = Err fault

-- the code of a thing that may have one stands at the start of the bytes, and is so long
pub record IsFront {A : Type 0} (code : A → List ℕ) (HasCode : A → Type 0) (bytes : List ℕ) (found : A × ℕ) : Type 0 where
  pub has_code : HasCode found.0
  pub front : take found.1 bytes ≡ code found.0
  pub len : found.1 ≡ length (code found.0)

-- no code stands at the start of the bytes
abbrev pub HasNoFront : {A : Type 0} → (A → List ℕ) → (A → Type 0) → List ℕ → Type 0
HasNoFront {A} code HasCode bytes = (x : A) (rest : List ℕ) → HasCode x → bytes ≡ code x ++ rest → ⊥

-- the thing whose code stands at the start of the bytes, with the length of its code, exactly where one does, unless memory ran out
abbrev pub Gets : {A : Type 0} → (A → List ℕ) → (A → Type 0) → List ℕ → Result (A × ℕ) ReadFault → Type 0
Gets code HasCode bytes (Ok found) = IsFront code HasCode bytes found
Gets code HasCode bytes (Err fault.NoMemory) = Unit {0}
Gets code HasCode bytes (Err fault.Bad) = HasNoFront code HasCode bytes
