-- The codes of blocks are exact.
use Rattle.std.proofs.Common.{◌≡◌, ◌<◌, ◌≤◌, ◌^◌, ℕ, ℤ, List, true, refl, sym, ap, arith, length}
use Rattle.std.specs.Int.{w64}
use Rattle.std.specs.Prelude.{FitsSigned, int_le, pos}
use Rattle.canon_code.specs.Codes.{be_code, short_code, counted, HasCounted}
use Rattle.canon_code.specs.Parts.{number_at, counted_at}
use Rattle.canon_code.specs.Values.{int_at, int_code}
use Rattle.canon_code.specs.Writes.{write_code, HasWriteCode, write_at}
use Rattle.canon_code.proofs.Exact.{IsExact, u64_exact, counted_exact}
use Rattle.canon_code.proofs.Things.{int_exact, write_exact}
use Rattle.node_model.specs.BlockCode.{small_code, outcome_code, told_code, block_code}
use Rattle.node_model.specs.declared.result.BlockResult.{BlockResult}
use Rattle.node_model.specs.declared.result.Told.{Told}
use Rattle.rel_base.specs.Text.{has_id_form}
use Rattle.rel_base.specs.declared.access.Placed.{Placed}
use Rattle.block_digest.specs.Grammar.{most_counted, most_outcomes, IsPosition, IsTime, HasOutcomeCode, HasToldCode, HasPlacedCode, HaveCodes, HasBlockCode}
use Rattle.block_digest.specs.Joined.{Reading, then_at, then_by}
use Rattle.block_digest.specs.Readings.{small_at, id_at, outcome_at, told_with, told_at, is_position, position_at, placed_at, rise, outcomes_at, order_at, writes_at, time_at, head_at, block_of, block_at}
use Rattle.block_digest.proofs.Joins.{form_exact, held_exact, tested_exact, pair_code, HasPairCode, then_exact, made_exact}
use Rattle.block_digest.proofs.Outcomes.{HasBoth, both_exact, outcome_exact}
use Rattle.block_digest.proofs.PositionCodes.{is_position_from, position_exact, position_from, small_exact}
use Rattle.block_digest.proofs.Rising.{sorted_from_rise, rise_from_sorted}

-- ---- transactions

abbrev IsId : List ℕ → Type 0
IsId id = has_id_form id ≡ true

told_exact : IsExact told_code HasToldCode told_at
told_exact =
    made_exact told_with (λ told. (told.id, told.outcome)) (pair_code short_code outcome_code) (HasBoth IsId HasOutcomeCode) (then_at id_at outcome_at) told_code HasToldCode
    (both_exact short_code IsId id_at outcome_code HasOutcomeCode outcome_at (form_exact has_id_form) outcome_exact) (record {
      has_parts = λ told has. (has.id, has.outcome);
      again = λ told has. refl;
      has_code = λ found has. record { id = has.0; outcome = has.1 };
      coded = λ found has. refl;
    })

outcomes_exact : IsExact (counted small_code told_code) (HasCounted most_outcomes HasToldCode) outcomes_at
outcomes_exact = counted_exact small_code (2 ^ 32) small_at small_exact told_code HasToldCode told_at told_exact most_outcomes (omega arith)

-- ---- positions

order_exact : (count : ℕ) → count ≤ 1024 → IsExact (counted small_code small_code) (HasCounted most_counted (IsPosition count)) (order_at count)
order_exact count few =
    counted_exact small_code (2 ^ 32) small_at small_exact small_code (IsPosition count) (position_at count) (position_exact count few) most_counted (omega arith)

-- ---- writes

placed_exact : (count : ℕ) → IsExact write_code (HasPlacedCode count) (placed_at count)
placed_exact count =
    held_exact write_code (λ placed. HasWriteCode placed × (is_position count placed.pos ≡ true)) (HasPlacedCode count) (placed_at count)
    (tested_exact write_code HasWriteCode write_at (λ placed. is_position count placed.pos) write_exact)
    (λ placed has. record { write = has.0; position = position_from count placed.pos has.1 }) (λ placed has. (has.write, is_position_from count placed.pos has.position))

-- writes in any order
any_exact : (count : ℕ) → IsExact (counted small_code write_code) (HasCounted most_counted (HasPlacedCode count)) (counted_at small_at most_counted (placed_at count))
any_exact count = counted_exact small_code (2 ^ 32) small_at small_exact write_code (HasPlacedCode count) (placed_at count) (placed_exact count) most_counted (omega arith)

writes_exact : (count : ℕ) → IsExact (counted small_code write_code) (HaveCodes count) (writes_at count)
writes_exact count =
    held_exact (counted small_code write_code) (λ writes. HasCounted most_counted (HasPlacedCode count) writes × (rise writes ≡ true)) (HaveCodes count) (writes_at count)
    (tested_exact (counted small_code write_code) (HasCounted most_counted (HasPlacedCode count)) (counted_at small_at most_counted (placed_at count)) rise (any_exact count))
    (λ writes has. record { each = has.0; rising = sorted_from_rise writes has.1 }) (λ writes has. (has.each, rise_from_sorted writes has.rising))

-- ---- blocks

abbrev IsWide : ℕ → Type 0
IsWide n = n < 2 ^ 64

-- a time
time_exact : IsExact int_code IsTime time_at
time_exact = tested_exact int_code (FitsSigned w64) int_at (int_le (pos 0)) int_exact

-- the number and the time
abbrev number_code : ℕ × ℤ → List ℕ
number_code = pair_code (be_code w64) int_code

abbrev HasNumberCode : ℕ × ℤ → Type 0
HasNumberCode = HasBoth IsWide IsTime

number_exact : IsExact number_code HasNumberCode head_at
number_exact = both_exact (be_code w64) IsWide (number_at w64) int_code IsTime time_at u64_exact time_exact

-- with the transactions after them
abbrev head_code : (ℕ × ℤ) × List Told → List ℕ
head_code = pair_code number_code (counted small_code told_code)

abbrev HasHeadCode : (ℕ × ℤ) × List Told → Type 0
HasHeadCode = HasBoth HasNumberCode (HasCounted most_outcomes HasToldCode)

head_exact : IsExact head_code HasHeadCode (then_at head_at outcomes_at)
head_exact = both_exact number_code HasNumberCode head_at (counted small_code told_code) (HasCounted most_outcomes HasToldCode) outcomes_at number_exact outcomes_exact

-- with the order after them
abbrev ordered_code : ((ℕ × ℤ) × List Told) × List ℕ → List ℕ
ordered_code = pair_code head_code (counted small_code small_code)

abbrev IsOrderOf : (ℕ × ℤ) × List Told → List ℕ → Type 0
IsOrderOf head order = HasCounted most_counted (IsPosition (length head.1)) order

abbrev HasOrderedCode : ((ℕ × ℤ) × List Told) × List ℕ → Type 0
HasOrderedCode = HasPairCode HasHeadCode IsOrderOf

abbrev ordered_at : Reading (((ℕ × ℤ) × List Told) × List ℕ)
ordered_at = then_by (then_at head_at outcomes_at) (λ found. order_at (length found.1))

ordered_exact : IsExact ordered_code HasOrderedCode ordered_at
ordered_exact =
    then_exact head_code HasHeadCode (then_at head_at outcomes_at) (counted small_code small_code) IsOrderOf (λ found. order_at (length found.1))
    head_exact (λ head has. order_exact (length head.1) has.1.0)

-- with the writes after them
abbrev parts_code : (((ℕ × ℤ) × List Told) × List ℕ) × List Placed → List ℕ
parts_code = pair_code ordered_code (counted small_code write_code)

abbrev AreWritesOf : ((ℕ × ℤ) × List Told) × List ℕ → List Placed → Type 0
AreWritesOf ordered writes = HaveCodes (length ordered.0.1) writes

abbrev HavePartsCode : (((ℕ × ℤ) × List Told) × List ℕ) × List Placed → Type 0
HavePartsCode = HasPairCode HasOrderedCode AreWritesOf

abbrev parts_at : Reading ((((ℕ × ℤ) × List Told) × List ℕ) × List Placed)
parts_at = then_by ordered_at (λ found. writes_at (length found.0.1))

parts_exact : IsExact parts_code HavePartsCode parts_at
parts_exact =
    then_exact ordered_code HasOrderedCode ordered_at (counted small_code write_code) AreWritesOf (λ found. writes_at (length found.0.1))
    ordered_exact (λ ordered has. writes_exact (length ordered.0.1))

abbrev block_parts : BlockResult → (((ℕ × ℤ) × List Told) × List ℕ) × List Placed
block_parts block = ((((block.number, block.time), block.outcomes), block.order), block.writes)

made_again : (block : BlockResult) → HasBlockCode block → block_of (block_parts block) ≡ block
made_again block has =
    ap (λ digest. record block { digest = digest }) (sym has.digest)

pub block_exact : IsExact block_code HasBlockCode block_at
block_exact = made_exact block_of block_parts parts_code HavePartsCode parts_at block_code HasBlockCode parts_exact (record {
  has_parts = λ block has. ((((has.number, has.time), has.outcomes), has.order), has.writes);
  again = made_again;
  has_code = λ found has. record { number = has.0.0.0.0; time = has.0.0.0.1; outcomes = has.0.0.1; order = has.0.1; writes = has.1; digest = refl };
  coded = λ found has. refl;
})
