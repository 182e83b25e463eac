-- Four message blocks side by side: the words at one place of the blocks are a vector, with one lane for each block.
use Rattle.std.specs.Prelude.{ℕ, List, [], ◌*◌, ◌<◌, ◌≡◌, drop, slice_index, slice_index_or, take}
use Rattle.sha2.specs.Sha256.{add32, round_constants, schedule}

-- the block in a lane
abbrev pub block_of : List ℕ → ℕ → List ℕ
block_of bytes lane = take 64 (drop (lane * 64) bytes)

-- the number in a lane of the vector at a place
abbrev pub lane_at : List (List ℕ) → ℕ → ℕ → ℕ
lane_at words place lane = slice_index (slice_index_or words place []) lane

-- the words of each block below a place stand in its lane (FIPS 180-4, 6.2.2, step 1)
abbrev pub HoldWords : List ℕ → List (List ℕ) → ℕ → Type 0
HoldWords bytes words below = (lane place : ℕ) → lane < 4 → place < below → lane_at words place lane ≡ slice_index (schedule (block_of bytes lane) 48) place

-- in a lane stand the words of a block, each with the number of its round added
abbrev pub IsKeyed : List ℕ → List (List ℕ) → ℕ → Type 0
IsKeyed block words lane = (place : ℕ) → place < 64 → lane_at words place lane ≡ add32 (slice_index (schedule block 48) place) (slice_index round_constants place)

abbrev pub AreKeyed : List ℕ → List (List ℕ) → Type 0
AreKeyed bytes words = (lane : ℕ) → lane < 4 → IsKeyed (block_of bytes lane) words lane
