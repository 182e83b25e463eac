use Rattle.std.proofs.Common.{◌≡◌, map, drop, take, length}
use Rattle.proc_check.specs.Statements.{block, walk_stmt}
use Rattle.proc_check.proofs.blocks.+walks.Given as goal

-- what is left decides the whole, and the names that were in scope before come first
abbrev pub invariant-check_stmts-loop-stmt : goal.invariant-check_stmts-loop-stmt
invariant-check_stmts-loop-stmt l =
    (block (map (walk_stmt l.base.tables.now) (drop l.stmt-index l.stmts)) l.scope ≡ block (map (walk_stmt l.base.tables.now) l.stmts) l.fn.scope)
    × (take l.outside l.scope ≡ l.fn.scope) × (l.outside ≡ length l.fn.scope)
