use Rattle.std.proofs.Common.{◌≡◌, ◌++◌, drop}
use Rattle.report_text.specs.JsonReport.{items_by, row_json, value_json}
use Rattle.report_text.specs.JsonTokens.{rest_of_array, tokens_of}
use Rattle.report_text.proofs.json_table.put_row.Given as goal

-- what is written and what is left make the whole
abbrev pub invariant-loop-value : goal.invariant-loop-value
invariant-loop-value l =
    l.out ++ rest_of_array (items_by value_json (drop l.value-index l.row)) ≡ l.fn.out ++ tokens_of (row_json l.row)
