-- What a shelf tells of its files, and what one call reads of a file.
use Rattle.std.specs.Prelude.{ℕ, ◌≡◌, ◌<◌, ◌≤◌, ◌↔◌, List, length, take, drop}

-- The bytes of each file by the bytes of its name. A name that stands for no file has no bytes.
abbrev pub Files : Type 0
Files = List ℕ → List ℕ

-- The first `count` bytes of the buffer are those of the file from `at` on, and
-- a buffer with room gets none exactly where the file has no byte from there on.
pub record IsPiece (file : List ℕ) (at count : ℕ) (buffer : List ℕ) : Type 0 where
  pub bytes : take count buffer ≡ take count (drop at file)
  pub end : 0 < length buffer → (count ≡ 0 ↔ length file ≤ at)
