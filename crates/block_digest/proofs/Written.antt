-- What is of the grammar can be written.
use Rattle.std.proofs.Common.{List, None, Option, Some, arith, ◌≤◌}
use Rattle.std.proofs.lemmas.List.Elements.{All-from_recursion, All-weaker}
use Rattle.canon_code.specs.Writes.{HasChangeCode, HasWriteCode, IsFewPart}
use Rattle.node_model.specs.declared.danger.Danger.TheVariants as danger
use Rattle.node_model.specs.declared.danger.Danger.{Danger}
use Rattle.node_model.specs.declared.outcome.Outcome.TheVariants as outcome
use Rattle.node_model.specs.declared.outcome.Outcome.{Outcome}
use Rattle.node_model.specs.declared.result.BlockResult.{BlockResult}
use Rattle.rel_base.specs.declared.access.Placed.{Placed}
use Rattle.rel_base.specs.declared.value.Value.{Value}
use Rattle.block_digest.specs.Codable.{HasFewKey, HasFewPath, IsFewWrite, IsCodable}
use Rattle.block_digest.specs.Grammar.{HasBlockCode, HasDangerCode, HasOutcomeCode, HasPlacedCode, HasToldCode}
use Rattle.std.specs.Prelude.{length}

few_path : (found : Danger) → HasDangerCode found → HasFewPath found
few_path (danger.One z x) has = tt
few_path (danger.Two y z) has = tt
few_path (danger.Cycle path) has = let few : length path ≤ 1023 = has.0.0 in omega arith

few_key : (outcome : Outcome) → HasOutcomeCode outcome → HasFewKey outcome
few_key outcome.Committed has = tt
few_key outcome.DuplicateId has = tt
few_key outcome.FutureHeight has = tt
few_key outcome.UnknownProcedure has = tt
few_key outcome.BadArguments has = tt
few_key (outcome.Late late) has = has.key.0
few_key (outcome.Fault fault) has = tt
few_key (outcome.WriteConflict clash) has = has.key.0
few_key (outcome.Danger found) has = few_path found has

few_parts : (before after : Option (List Value)) → HasChangeCode before after → IsFewPart before × IsFewPart after
few_parts None None has = absurd has
few_parts None (Some after) has = (tt, has.0)
few_parts (Some before) (Some after) has = (has.0.0, has.1.0)
few_parts (Some before) None has = (has.0, tt)

few_write : (placed : Placed) → HasWriteCode placed → IsFewWrite placed
few_write placed has =
    let parts = few_parts placed.write.before placed.write.after has.change in
    record { key = has.head.key.0; before = parts.0; after = parts.1 }

pub can_be_written : (block : BlockResult) → HasBlockCode block → IsCodable block
can_be_written block has = record {
  few_outcomes = let few : length block.outcomes ≤ 1024 = has.outcomes.0 in omega arith;
  few_positions = let few : length block.order ≤ 4294967295 = has.order.0 in omega arith;
  few_writes = let few : length block.writes ≤ 4294967295 = has.writes.each.0 in omega arith;
  keys = All-weaker HasToldCode (λ told. HasFewKey told.outcome) (λ told code. few_key told.outcome code.outcome) block.outcomes
      (All-from_recursion HasToldCode block.outcomes has.outcomes.1);
  rows = All-weaker (HasPlacedCode (length block.outcomes)) IsFewWrite (λ placed code. few_write placed code.write) block.writes
      (All-from_recursion (HasPlacedCode (length block.outcomes)) block.writes has.writes.each.1);
}
