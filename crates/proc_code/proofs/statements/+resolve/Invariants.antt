use Rattle.std.proofs.Common.{◌≡◌, ◌++◌, drop, map}
use Rattle.proc_code.specs.Resolved.{action_of}
use Rattle.proc_code.proofs.statements.+resolve.Given as goal

-- the actions so far, and those of the rest
abbrev pub invariant-resolve_block-loop-stmt : goal.invariant-resolve_block-loop-stmt
invariant-resolve_block-loop-stmt l = l.actions ++ map (action_of l.resolver.tables.now l.resolver.columns.now l.resolver.names.now) (drop l.stmt-index l.stmts) ≡ map (action_of l.resolver.tables.now l.resolver.columns.now l.resolver.names.now) l.stmts
