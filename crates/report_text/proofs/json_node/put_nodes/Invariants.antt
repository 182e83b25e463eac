use Rattle.std.proofs.Common.{◌≡◌, ◌++◌, ◌+◌, codes, drop}
use Rattle.report_text.specs.JsonReport.{items_from, node_json}
use Rattle.report_text.specs.JsonTokens.{member_tokens, rest_of_array}
use Rattle.serde_json.specs.Data.{array}
use Rattle.report_text.proofs.json_node.put_nodes.Given as goal

-- what is written and what is left make the whole
abbrev pub invariant-loop-before : goal.invariant-loop-before
invariant-loop-before l =
    l.out ++ rest_of_array (items_from (node_json l.look l.tables) (l.before + 1) (drop l.before l.nodes)) ≡ l.fn.out ++ member_tokens (codes "nodes") (array (items_from (node_json l.look l.tables) 1 l.nodes))
