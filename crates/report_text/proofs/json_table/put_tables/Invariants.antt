use Rattle.std.proofs.Common.{◌≡◌, ◌++◌, codes, drop}
use Rattle.report_text.specs.JsonReport.{items_by, table_json}
use Rattle.report_text.specs.JsonTokens.{member_tokens, rest_of_array}
use Rattle.serde_json.specs.Data.{array}
use Rattle.report_text.proofs.json_table.put_tables.Given as goal

-- what is written and what is left make the whole
abbrev pub invariant-loop-table : goal.invariant-loop-table
invariant-loop-table l =
    l.out ++ rest_of_array (items_by (table_json l.tables) (drop l.table-index l.shown)) ≡ l.fn.out ++ member_tokens (codes "tables") (array (items_by (table_json l.tables) l.shown))
