use Rattle.std.proofs.Common.{◌≡◌, ◌++◌, codes, drop}
use Rattle.report_text.specs.JsonReport.{items_by, row_json}
use Rattle.report_text.specs.JsonTokens.{member_tokens, rest_of_array}
use Rattle.serde_json.specs.Data.{array}
use Rattle.report_text.proofs.json_table.put_rows.Given as goal

-- what is written and what is left make the whole
abbrev pub invariant-loop-row : goal.invariant-loop-row
invariant-loop-row l =
    l.out ++ rest_of_array (items_by row_json (drop l.row-index l.rows)) ≡ l.fn.out ++ member_tokens (codes "rows") (array (items_by row_json l.rows))
