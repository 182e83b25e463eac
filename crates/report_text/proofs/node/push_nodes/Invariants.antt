use Rattle.std.proofs.Common.{◌≡◌, ◌++◌, ◌+◌, drop}
use Rattle.report_text.specs.Report.{numbered, node_lines}
use Rattle.report_text.proofs.node.push_nodes.Given as goal

-- what is written and what is left make the whole
abbrev pub invariant-loop-before : goal.invariant-loop-before
invariant-loop-before l =
    l.out ++ numbered (node_lines l.look l.tables) (l.before + 1) (drop l.before l.nodes) ≡ l.initial.out ++ numbered (node_lines l.look l.tables) 1 l.nodes
