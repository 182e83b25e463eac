-- Writes that have a head: they can be counted in four bytes, and each has a code.
use Rattle.std.specs.Prelude.{All, List, length, ◌<◌, ◌^◌}
use Rattle.block_digest.specs.Codable.{IsFewWrite}
use Rattle.node_model.specs.declared.result.BlockResult.{BlockResult}
use Rattle.rel_base.specs.declared.access.Placed.{Placed}

pub record AreFew (writes : List Placed) : Type 0 where
  pub count : length writes < 2 ^ 32
  pub rows : All IsFewWrite writes

abbrev pub HasFewWrites : BlockResult → Type 0
HasFewWrites block = AreFew block.writes
