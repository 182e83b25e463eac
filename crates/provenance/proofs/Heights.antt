-- A version is visible at some height of a range exactly where its own heights and the range meet.
use Rattle.std.proofs.Common.{◌≡◌, ℕ, suc, zero, ◌+◌, ◌-◌, ◌≤◌, true, false, ◌&&◌, ◌||◌, None, Some, nat_le, nat_lt, ap, arith, ◌∙◌}
use Rattle.std.specs.List.{list_any, range_with_len}
use Rattle.provenance.specs.Answer.{is_visible, was_visible}
use Rattle.rel_base.specs.declared.access.Place.{Place}
use Rattle.std.proofs.lemmas.Bool.Decides.{nat_tests}

-- one more height at the start of a range
live_more : (made from n : ℕ) → (nat_le made from && true || nat_le made (from + 1 + n)) ≡ nat_le made (from + suc n)
live_more made from n = grind (arith, nat_tests)

ended_more : (made end from n : ℕ) → (nat_le made from && nat_lt from end || (nat_le made (from + 1 + n) && (nat_lt (from + 1) end && nat_lt made end))) ≡ (nat_le made (from + suc n) && (nat_lt from end && nat_lt made end))
ended_more made end from n = grind (arith, nat_tests)

ended_one : (made end from : ℕ) → (nat_le made from && nat_lt from end || false) ≡ (nat_le made (from + 0) && (nat_lt from end && nat_lt made end))
ended_one made end from = grind (arith, nat_tests)

live_one : (made from : ℕ) → (nat_le made from && true || false) ≡ nat_le made (from + 0)
live_one made from = grind (arith, nat_tests)

-- what lives was visible at some height of a range where it was made up to the last one
live_in : (made from n : ℕ) → list_any (λ h. nat_le made h && true) (range_with_len from (suc n)) ≡ nat_le made (from + n)
live_in made from zero = live_one made from
live_in made from (suc n) = ap (λ b. nat_le made from && true || b) (live_in made (from + 1) n) ∙ live_more made from n

-- and what was ended, where it was not ended up to the first one either, nor in the block in which it was made
ended_in : (made end from n : ℕ) → list_any (λ h. nat_le made h && nat_lt h end) (range_with_len from (suc n)) ≡ (nat_le made (from + n) && (nat_lt from end && nat_lt made end))
ended_in made end from zero = ended_one made end from
ended_in made end from (suc n) = ap (λ b. nat_le made from && nat_lt from end || b) (ended_in made end (from + 1) n) ∙ ended_more made end from n

-- the length of a range that is not empty
range_long : (from to : ℕ) → from ≤ to → to + 1 - from ≡ suc (to - from)
range_long from to above = omega arith

range_last : (from to : ℕ) → from ≤ to → from + (to - from) ≡ to
range_last from to above = omega arith

pub seen_live : (from to : ℕ) (made : Place) → from ≤ to → was_visible from to made None ≡ nat_le made.block to
seen_live from to made above =
    ap (λ n. list_any (is_visible made None) (range_with_len from n)) (range_long from to above) ∙ live_in made.block from (to - from) ∙ ap (nat_le made.block) (range_last from to above)

pub seen_ended : (from to : ℕ) (made end : Place) → from ≤ to → was_visible from to made (Some end) ≡ (nat_le made.block to && (nat_lt from end.block && nat_lt made.block end.block))
seen_ended from to made end above =
    ap (λ n. list_any (is_visible made (Some end)) (range_with_len from n)) (range_long from to above) ∙ ended_in made.block end.block from (to - from)
    ∙ ap (λ last. nat_le made.block last && (nat_lt from end.block && nat_lt made.block end.block)) (range_last from to above)
