-- The least of pairs of a position and something else: the least position first.
use Rattle.std.specs.Prelude.{◌≤◌, ℕ}

-- a position and a thing that are related: no lesser position is related to anything, and the position to no lesser thing
pub record IsLeastPair {X : Type 0} (UpTo : X → X → Type 0) (Related : ℕ → X → Type 0) (position : ℕ) (thing : X) : Type 0 where
  pub related : Related position thing
  pub least_position : (other : ℕ) (any : X) → Related other any → position ≤ other
  pub least_thing : (other : X) → Related position other → UpTo thing other

-- no position is related to anything
abbrev pub NoPair : {X : Type 0} → (ℕ → X → Type 0) → Type 0
NoPair {X} Related = (position : ℕ) (thing : X) → Related position thing → ⊥
