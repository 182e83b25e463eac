-- The rounds of a block by words to which the numbers of the rounds were added.
use Rattle.std.proofs.Common.{◌≡◌, ℕ, ◌+◌, List, slice_index, arith, ap, sym, ◌∙◌}
use Rattle.sha2.specs.Sha256.{add32, round, round_constants, rounds}
use Rattle.sha2.proofs.Schedule256.{rounds_next}

-- a number added to a sum first, or last
pub added_first : (x number word : ℕ) → add32 x (add32 word number) ≡ add32 (add32 x number) word
added_first x number word = omega arith

-- one more round
pub rounds_on : (hash words v after : List ℕ) (place : ℕ) → v ≡ rounds hash words place → after ≡ round v (slice_index round_constants place) (slice_index words place) → after ≡ rounds hash words (place + 1)
rounds_on hash words v after place is next = next ∙ ap (λ v. round v (slice_index round_constants place) (slice_index words place)) is ∙ sym (rounds_next hash words place)
