-- Draws: numbers from a linear congruence modulo 2^64, of which each step gives its upper 32 bits.
-- (Known as the generator of MMIX; its multiplier stands in Knuth, The Art of Computer Programming, volume 2, section 3.3.4.)
use Rattle.std.specs.Prelude.{suc, zero, ◌%◌, ◌*◌, ◌+◌, ◌/◌, ◌^◌, ℕ}

-- one step of the state
unfoldable pub step : ℕ → ℕ
step state = (6364136223846793005 * state + 1442695040888963407) % (2 ^ 64)

-- some steps of the state
abbrev pub steps : ℕ → ℕ → ℕ
steps zero state = state
steps (suc count) state = steps count (step state)

-- the upper 32 bits of a state
abbrev pub upper : ℕ → ℕ
upper state = state / 2 ^ 32

-- the draw that a step makes, of those from a state on and counted from 1: a number below a bound
abbrev pub draw : ℕ → ℕ → ℕ → ℕ
draw state nth bound = upper (steps nth state) % bound
