use Rattle.std.proofs.Common.{◌≡◌, ◌++◌, codes, drop}
use Rattle.report_text.specs.JsonReport.{items_by, tx_json}
use Rattle.report_text.specs.JsonTokens.{member_tokens, rest_of_array}
use Rattle.serde_json.specs.Data.{array}
use Rattle.report_text.proofs.json_block.put_txs.Given as goal

-- what is written and what is left make the whole
abbrev pub invariant-loop-told : goal.invariant-loop-told
invariant-loop-told l =
    l.out ++ rest_of_array (items_by (tx_json l.tables) (drop l.told-index l.outcomes)) ≡ l.fn.out ++ member_tokens (codes "txs") (array (items_by (tx_json l.tables) l.outcomes))
