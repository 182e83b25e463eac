-- How the result of a block is read from the start of some bytes.
use Rattle.block_digest.specs.Grammar.{is_way, most_counted, most_on_path, most_outcomes, placed_cmp}
use Rattle.block_digest.specs.Joined.{Reading, made_at, tested_at, then_at, then_by}
use Rattle.canon_code.specs.Parts.{counted_at, number_at, short_at}
use Rattle.canon_code.specs.Rows.{row_at}
use Rattle.canon_code.specs.Values.{int_at, text_at}
use Rattle.canon_code.specs.Writes.{write_at}
use Rattle.node_model.specs.Kinds.{danger_mark, fault_mark, kind_byte}
use Rattle.node_model.specs.declared.danger.Danger.TheVariants as danger
use Rattle.node_model.specs.declared.danger.Danger.{Danger}
use Rattle.node_model.specs.declared.kind.OutcomeKind.TheVariants as kind
use Rattle.node_model.specs.declared.outcome.Clash.{Clash}
use Rattle.node_model.specs.declared.outcome.Late.{Late}
use Rattle.node_model.specs.declared.outcome.Outcome.TheVariants as outcome
use Rattle.node_model.specs.declared.outcome.Outcome.{Outcome}
use Rattle.node_model.specs.declared.result.BlockResult.{BlockResult}
use Rattle.node_model.specs.declared.result.Told.{Told}
use Rattle.proc_syntax.specs.declared.fault.Fault.TheVariants as fault
use Rattle.proc_syntax.specs.declared.fault.Fault.{Fault}
use Rattle.rel_base.specs.Text.{has_id_form}
use Rattle.rel_base.specs.declared.access.Placed.{Placed}
use Rattle.rel_base.specs.declared.value.Value.{Value}
use Rattle.std.specs.Int.{w32, w64}
use Rattle.std.specs.Ordering.{is_lt}
use Rattle.std.specs.Prelude.{Bool, List, None, Some, cond, false, int_le, length, nat_le, pos, replicate, true, [], ◌&&◌, ◌==◌, ◌∷◌, ℕ, ℤ}

abbrev pub small_at : Reading ℕ
small_at bytes = number_at w32 bytes

abbrev pub id_at : Reading (List ℕ)
id_at bytes = tested_at has_id_form short_at bytes

-- a table and a key
abbrev pub named_at : Reading (ℕ × List Value)
named_at = then_at small_at row_at

-- ---- positions

-- whether a position lies between 1 and the number of transactions
abbrev pub is_position : ℕ → ℕ → Bool
is_position count position = nat_le 1 position && nat_le position count

abbrev pub position_at : ℕ → Reading ℕ
position_at count = tested_at (is_position count) small_at

-- from 1 to 1,023 positions, no two of them equal
abbrev pub path_at : Reading (List ℕ)
path_at = tested_at is_way (counted_at small_at most_on_path (position_at most_outcomes))

-- ---- outcomes

abbrev pub late_of : Bool → ((ℕ × ℕ) × ℕ) × (ℕ × List Value) → Late
late_of stale found =
    record { stale = stale; read = found.0.0.0; place = record { block = found.0.0.1; pos = found.0.1 }; table = found.1.0; key = found.1.1 }

-- a late read after its kind
abbrev pub late_at : Bool → Reading Late
late_at stale = made_at (late_of stale) (then_at (then_at (then_at small_at (number_at w64)) small_at) named_at)

abbrev pub fault_at : Reading Fault
fault_at [] = None
fault_at (byte ∷ bytes) =
    cond (byte == (fault_mark fault.Overflow).1) (Some (fault.Overflow, bytes))
    (cond (byte == (fault_mark fault.ZeroDivide).1) (Some (fault.ZeroDivide, bytes))
    (cond (byte == (fault_mark fault.DuplicateKey).1) (Some (fault.DuplicateKey, bytes))
    (cond (byte == (fault_mark fault.NoRow).1) (Some (fault.NoRow, bytes))
    (cond (byte == (fault_mark fault.TextTooLong).1) (Some (fault.TextTooLong, bytes))
    (cond (byte == (fault_mark fault.Steps).1) (Some (fault.Steps, bytes))
    (cond (byte == (fault_mark (fault.Failed [])).1) (made_at fault.Failed text_at bytes) None))))))

abbrev pub clash_of : ℕ × (ℕ × List Value) → Clash
clash_of found = record { with = found.0; table = found.1.0; key = found.1.1 }

abbrev pub clash_at : Reading Clash
clash_at = made_at clash_of (then_at small_at named_at)

abbrev pub one_of : ℕ × ℕ → Danger
one_of found = danger.One found.0 found.1

abbrev pub two_of : ℕ × ℕ → Danger
two_of found = danger.Two found.0 found.1

abbrev pub danger_at : Reading Danger
danger_at [] = None
danger_at (byte ∷ bytes) =
    cond (byte == (danger_mark (danger.One 0 0)).1) (made_at one_of (then_at small_at small_at) bytes)
    (cond (byte == (danger_mark (danger.Two 0 0)).1) (made_at two_of (then_at small_at small_at) bytes) (cond (byte == (danger_mark (danger.Cycle [])).1) (made_at danger.Cycle path_at bytes) None))

abbrev pub outcome_at : Reading Outcome
outcome_at [] = None
outcome_at (byte ∷ bytes) =
    cond (byte == kind_byte kind.Committed) (Some (outcome.Committed, bytes))
    (cond (byte == kind_byte kind.DuplicateId) (Some (outcome.DuplicateId, bytes))
    (cond (byte == kind_byte kind.FutureHeight) (Some (outcome.FutureHeight, bytes))
    (cond (byte == kind_byte kind.UnknownProcedure) (Some (outcome.UnknownProcedure, bytes))
    (cond (byte == kind_byte kind.BadArguments) (Some (outcome.BadArguments, bytes))
    (cond (byte == kind_byte kind.Stale) (made_at outcome.Late (late_at true) bytes)
    (cond (byte == kind_byte kind.Phantom) (made_at outcome.Late (late_at false) bytes)
    (cond (byte == kind_byte kind.Fault) (made_at outcome.Fault fault_at bytes)
    (cond (byte == kind_byte kind.WriteConflict) (made_at outcome.WriteConflict clash_at bytes)
    (cond (byte == kind_byte kind.Danger) (made_at outcome.Danger danger_at bytes) None)))))))))

-- ---- blocks

abbrev pub told_with : List ℕ × Outcome → Told
told_with found = record { id = found.0; outcome = found.1 }

abbrev pub told_at : Reading Told
told_at = made_at told_with (then_at id_at outcome_at)

abbrev pub placed_at : ℕ → Reading Placed
placed_at count = tested_at (λ placed. is_position count placed.pos) write_at

-- whether each write stands after the one before it
abbrev pub rise_behind : Placed → List Placed → Bool
rise_behind last [] = true
rise_behind last (next ∷ rest) = is_lt (placed_cmp last next) && rise_behind next rest

abbrev pub rise : List Placed → Bool
rise [] = true
rise (first ∷ rest) = rise_behind first rest

abbrev pub outcomes_at : Reading (List Told)
outcomes_at = counted_at small_at most_outcomes told_at

abbrev pub order_at : ℕ → Reading (List ℕ)
order_at count = counted_at small_at most_counted (position_at count)

abbrev pub writes_at : ℕ → Reading (List Placed)
writes_at count = tested_at rise (counted_at small_at most_counted (placed_at count))

abbrev pub block_of : (((ℕ × ℤ) × List Told) × List ℕ) × List Placed → BlockResult
block_of found = record {
  number = found.0.0.0.0;
  time = found.0.0.0.1;
  outcomes = found.0.0.1;
  order = found.0.1;
  writes = found.1;
  digest = replicate 32 0;
}

-- a time, which is not negative
abbrev pub time_at : Reading ℤ
time_at = tested_at (int_le (pos 0)) int_at

-- the number and the time
abbrev pub head_at : Reading (ℕ × ℤ)
head_at = then_at (number_at w64) time_at

-- the block at the start of the bytes, and what follows it
abbrev pub block_at : Reading BlockResult
block_at =
    made_at block_of (then_by (then_by (then_at head_at outcomes_at) (λ found. order_at (length found.1))) (λ found. writes_at (length found.0.1)))
