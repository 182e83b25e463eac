-- The values of a row in the making.
use Rattle.std.specs.Prelude.{◌≡◌, ◌≤◌, ◌<◌, ◌++◌, ℕ, List, [], take}
use Rattle.rel_base.specs.declared.value.Value.{Value}

-- as many of the few as are there, and those after them
abbrev pub made_of : List Value → ℕ → List Value → List Value
made_of few count more = take count few ++ more

-- there are more only once there are four
pub record IsMaker (count : ℕ) (more : List Value) : Type 0 where
  pub few : count ≤ 4
  pub full : count < 4 → more ≡ []
