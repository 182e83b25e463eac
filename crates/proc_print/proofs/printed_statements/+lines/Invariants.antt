use Rattle.std.proofs.Common.{◌≡◌, ◌++◌, flat_map, map, drop}
use Rattle.proc_print.specs.Printed.{line_text, stmt_text}
use Rattle.proc_print.proofs.printed_statements.+lines.Given as goal

-- what is written and what is left make the whole
abbrev pub invariant-push_lines-loop-stmt : goal.invariant-push_lines-loop-stmt
invariant-push_lines-loop-stmt l =
    l.out.items ++ flat_map (line_text l.margin) (map stmt_text (drop l.stmt-index l.stmts))
    ≡ l.fn.out.items ++ flat_map (line_text l.margin) (map stmt_text l.stmts)
