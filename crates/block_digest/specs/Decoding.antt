-- What a reader of whole bytes answers.
use Rattle.rel_base.specs.declared.reading.ReadFault.TheVariants as fault
use Rattle.rel_base.specs.declared.reading.ReadFault.{ReadFault}
use Rattle.std.specs.Prelude.{Err, List, Ok, Result, ◌≡◌, ℕ}

-- the thing whose code the bytes are, of those that may have a code; none only where there is no such thing, or memory ran out
abbrev pub Decodes : {A : Type 0} → (A → List ℕ) → (A → Type 0) → List ℕ → Result A ReadFault → Type 0
Decodes code HasCode bytes (Ok found) = HasCode found × (code found ≡ bytes)
Decodes code HasCode bytes (Err fault.NoMemory) = Unit {0}
Decodes {A} code HasCode bytes (Err fault.Bad) = (thing : A) → HasCode thing → code thing ≡ bytes → ⊥
