use Rattle.std.proofs.Common.{◌≡◌, ◌++◌, drop, map}
use Rattle.proc_code.specs.Resolved.{term_of}
use Rattle.proc_code.proofs.terms.resolve_terms.Given as goal

-- the terms so far, and those of the rest
abbrev pub invariant-loop-expr : goal.invariant-loop-expr
invariant-loop-expr l = l.terms ++ map (term_of l.columns l.names) (drop l.expr-index l.exprs) ≡ map (term_of l.columns l.names) l.exprs
