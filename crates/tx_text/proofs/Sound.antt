-- What the code's types promise of values, in the words of the grammar.
use Rattle.std.proofs.Common.{◌<◌, ℕ, suc, List, [], ◌∷◌, get_or}
use Rattle.std.specs.List.{AllByRecursion}

pub bytes_sound : (bytes : List ℕ) → ((i : ℕ) → get_or bytes i 0 < 256) → AllByRecursion (λ byte. byte < 256) bytes
bytes_sound [] low = tt
bytes_sound (b ∷ bs) low = (low 0, bytes_sound bs (λ i. low (suc i)))
