use Rattle.std.proofs.Common.{◌≡◌, ◌++◌, codes, drop}
use Rattle.report_text.specs.JsonReport.{block_json, items_by}
use Rattle.report_text.specs.JsonTokens.{member_tokens, rest_of_array}
use Rattle.serde_json.specs.Data.{array}
use Rattle.report_text.proofs.json_block.put_blocks.Given as goal

-- what is written and what is left make the whole
abbrev pub invariant-loop-block : goal.invariant-loop-block
invariant-loop-block l =
    l.out ++ rest_of_array (items_by (block_json l.look l.tables) (drop l.block-index l.blocks)) ≡ l.fn.out ++ member_tokens (codes "blocks") (array (items_by (block_json l.look l.tables) l.blocks))
