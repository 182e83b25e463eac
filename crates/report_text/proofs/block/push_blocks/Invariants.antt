use Rattle.std.proofs.Common.{◌≡◌, ◌++◌, flat_map, drop}
use Rattle.report_text.specs.Report.{block_lines}
use Rattle.report_text.proofs.block.push_blocks.Given as goal

-- what is written and what is left make the whole
abbrev pub invariant-loop-block : goal.invariant-loop-block
invariant-loop-block l =
    l.out ++ flat_map (block_lines l.look l.tables) (drop l.block-index l.blocks) ≡ l.initial.out ++ flat_map (block_lines l.look l.tables) l.blocks
