use Rattle.std.proofs.Common.{◌≡◌, ◌++◌, drop}
use Rattle.report_text.specs.JsonReport.{count, items_by}
use Rattle.report_text.specs.JsonTokens.{rest_of_array, tokens_of}
use Rattle.serde_json.specs.Data.{array}
use Rattle.report_text.proofs.json_block.put_positions.Given as goal

-- what is written and what is left make the whole
abbrev pub invariant-loop-position : goal.invariant-loop-position
invariant-loop-position l =
    l.out ++ rest_of_array (items_by count (drop l.position-index l.positions)) ≡ l.fn.out ++ tokens_of (array (items_by count l.positions))
