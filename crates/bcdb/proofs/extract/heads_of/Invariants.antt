use Rattle.std.proofs.Common.{drop, take, ◌+◌, ◌≡◌}
use Rattle.bcdb.proofs.extract.heads_of.Given as goal
use Rattle.bcdb.specs.HistoryParts.{from_block}
use Rattle.merkle_proof.specs.Blocks.{heads_of}

-- the writes of the blocks that are left stand from there on
abbrev pub invariant-loop-block : goal.invariant-loop-block
invariant-loop-block g l =
    let history = g.V.Versions.history l.versions in
    (l.heads ≡ heads_of (take l.block-index l.blocks)) × (from_block (l.block-index + 1) (drop l.from history) ≡ from_block (l.block-index + 1) history)
