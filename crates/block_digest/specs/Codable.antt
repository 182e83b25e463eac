-- What the code of a block's result can be written of: its counts fit their bytes.
use Rattle.canon_code.specs.Writes.{IsFewPart}
use Rattle.node_model.specs.declared.danger.Danger.TheVariants as danger
use Rattle.node_model.specs.declared.danger.Danger.{Danger}
use Rattle.node_model.specs.declared.outcome.Outcome.TheVariants as outcome
use Rattle.node_model.specs.declared.outcome.Outcome.{Outcome}
use Rattle.node_model.specs.declared.result.BlockResult.{BlockResult}
use Rattle.node_model.specs.declared.result.Told.{Told}
use Rattle.rel_base.specs.declared.access.Placed.{Placed}
use Rattle.std.specs.Prelude.{All, List, length, ◌<◌, ◌^◌, ◌≤◌, ℕ}

-- a cycle has a path of fewer than 2 ^ 32 positions
abbrev pub HasFewPath : Danger → Type 0
HasFewPath (danger.One z x) = Unit {0}
HasFewPath (danger.Two y z) = Unit {0}
HasFewPath (danger.Cycle path) = length path < 2 ^ 32

-- the key that an outcome names, if any, has at most 32 values, and the path of its danger is not too long
abbrev pub HasFewKey : Outcome → Type 0
HasFewKey outcome.Committed = Unit {0}
HasFewKey outcome.DuplicateId = Unit {0}
HasFewKey outcome.FutureHeight = Unit {0}
HasFewKey outcome.UnknownProcedure = Unit {0}
HasFewKey outcome.BadArguments = Unit {0}
HasFewKey (outcome.Late late) = length late.key ≤ 32
HasFewKey (outcome.Fault fault) = Unit {0}
HasFewKey (outcome.WriteConflict clash) = length clash.key ≤ 32
HasFewKey (outcome.Danger found) = HasFewPath found

-- the key of a write, and each of its rows, has at most 32 values
pub record IsFewWrite (placed : Placed) : Type 0 where
  pub key : length placed.write.key ≤ 32
  pub before : IsFewPart placed.write.before
  pub after : IsFewPart placed.write.after

pub record AreCodable (outcomes : List Told) (order : List ℕ) (writes : List Placed) : Type 0 where
  pub few_outcomes : length outcomes < 2 ^ 32
  pub few_positions : length order < 2 ^ 32
  pub few_writes : length writes < 2 ^ 32
  pub keys : All (λ told. HasFewKey told.outcome) outcomes
  pub rows : All IsFewWrite writes

-- fewer than 2 ^ 32 outcomes, positions and writes, also in the path of a cycle, and at most 32 values in each key and row; its number, its time and its digest are free
abbrev pub IsCodable : BlockResult → Type 0
IsCodable block = AreCodable block.outcomes block.order block.writes
