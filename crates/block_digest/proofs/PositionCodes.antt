-- The codes of positions are exact, and so are those of paths.
use Rattle.std.proofs.Common.{◌≡◌, ◌≤◌, ◌^◌, ℕ, true, arith}
use Rattle.std.specs.Prelude.{nat_le}
use Rattle.std.proofs.lemmas.Bool.{and_from, and_parts, le-leb, leb-true}
use Rattle.canon_code.specs.Codes.{counted, HasCounted}
use Rattle.canon_code.specs.Parts.{counted_at}
use Rattle.canon_code.proofs.Exact.{IsExact, counted_exact, u32_exact}
use Rattle.node_model.specs.BlockCode.{small_code}
use Rattle.block_digest.specs.Grammar.{most_on_path, most_outcomes, is_way, IsSmall, IsPosition, HasPathCode}
use Rattle.block_digest.specs.Readings.{small_at, is_position, path_at, position_at}
use Rattle.block_digest.proofs.Joins.{held_exact, tested_exact}

pub small_exact : IsExact small_code IsSmall small_at
small_exact = u32_exact

pub position_from : (count position : ℕ) → is_position count position ≡ true → IsPosition count position
position_from count position fine =
    let parts = and_parts (nat_le 1 position) (nat_le position count) fine in
    record { from_one = leb-true 1 position parts.0; within = leb-true position count parts.1 }

pub is_position_from : (count position : ℕ) → IsPosition count position → is_position count position ≡ true
is_position_from count position has =
    and_from (nat_le 1 position) (nat_le position count) (le-leb 1 position has.from_one) (le-leb position count has.within)

pub small_from : (count position : ℕ) → count ≤ 1024 → IsPosition count position → IsSmall position
small_from count position few has = let within : position ≤ count = has.within in omega arith

pub position_exact : (count : ℕ) → count ≤ 1024 → IsExact small_code (IsPosition count) (position_at count)
position_exact count few =
    held_exact small_code (λ n. IsSmall n × (is_position count n ≡ true)) (IsPosition count) (position_at count) (tested_exact small_code IsSmall small_at (is_position count) small_exact)
    (λ n has. position_from count n has.1) (λ n has. (small_from count n few has, is_position_from count n has))

pub path_exact : IsExact (counted small_code small_code) HasPathCode path_at
path_exact =
    tested_exact (counted small_code small_code) (HasCounted most_on_path (IsPosition most_outcomes)) (counted_at small_at most_on_path (position_at most_outcomes)) is_way
    (counted_exact small_code (2 ^ 32) small_at small_exact small_code (IsPosition most_outcomes) (position_at most_outcomes) (position_exact most_outcomes (omega arith)) most_on_path (omega arith))
