use Rattle.std.proofs.Common.{◌≡◌, ℕ, List, [], ◌∷◌, ◌++◌, Option, Some, None, refl, ap, append_assoc}
use Rattle.literals.specs.Text.{with_byte}
use Rattle.literals.specs.Part.{with_front}

-- a byte moves from what is left to what is made
pub with_front_more : (front : List ℕ) (b : ℕ) (found : Option (List ℕ × List ℕ)) → with_front (front ++ (b ∷ [])) found ≡ with_front front (with_byte b found)
with_front_more front b None = refl
with_front_more front b (Some found) = ap (λ bytes. Some (bytes, found.1)) (append_assoc front (b ∷ []) found.0)
