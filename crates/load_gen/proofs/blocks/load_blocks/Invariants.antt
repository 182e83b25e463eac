use Rattle.std.proofs.Common.{map, ◌-◌, ◌≡◌, ◌∷◌}
use Rattle.load_gen.specs.Blocks.{first_block, first_of, later_block}
use Rattle.std.specs.List.{range_with_len}
use Rattle.load_gen.proofs.blocks.load_blocks.Given as goal

abbrev pub invariant-loop-block : goal.invariant-loop-block
invariant-loop-block l = (l.blocks ≡ first_block ∷ map (later_block l.number) (range_with_len 2 (l.block - 2))) × (l.drawn.next ≡ first_of l.block) × (l.drawn.load ≡ l.number)
