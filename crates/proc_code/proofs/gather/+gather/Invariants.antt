use Rattle.std.proofs.Common.{◌≡◌, drop, map}
use Rattle.proc_code.specs.Numbers.{with_names, joined, bound_names}
use Rattle.proc_code.proofs.gather.+gather.Given as goal

-- with the names of the statements that are left come the names of all
abbrev pub invariant-gather_block-loop-stmt : goal.invariant-gather_block-loop-stmt
invariant-gather_block-loop-stmt l = with_names l.names (joined (map bound_names (drop l.stmt-index l.stmts))) ≡ with_names l.fn.names (joined (map bound_names l.stmts))
