-- Rooms: bytes that a text begins and zeros end.
use Rattle.std.specs.Prelude.{◌≡◌, ℕ, ◌≤◌, ◌-◌, List, length, take, drop, replicate, IsUtf8}

-- zeros follow the first bytes of a room
pub record IsPadded (len : ℕ) (room : List ℕ) : Type 0 where
  pub fits : len ≤ length room
  pub zeros : drop len room ≡ replicate (length room - len) 0

-- a room of a size begins with a text of a length, and zeros follow it
pub record IsRoom (size len : ℕ) (room : List ℕ) : Type 0 where
  pub whole : length room ≡ size
  pub padded : IsPadded len room
  pub text : ∥ IsUtf8 (take len room) ∥₁
