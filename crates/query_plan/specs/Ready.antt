-- The sources that a comparison speaks of.
use Rattle.std.specs.Prelude.{ℕ, Bool, true, nat_lt, ◌&&◌}
use Rattle.query_plan.specs.declared.select.Comparison.{Comparison}
use Rattle.query_plan.specs.declared.select.Side.{Side}
use Rattle.query_plan.specs.declared.select.Side.TheVariants.{Field as Other, Given}

abbrev pub is_side_ready : ℕ → Side → Bool
is_side_ready count (Other col) = nat_lt col.source count
is_side_ready count (Given v) = true

-- a comparison speaks of the first sources alone
abbrev pub is_ready : ℕ → Comparison → Bool
is_ready count c = nat_lt c.left.source count && is_side_ready count c.right
