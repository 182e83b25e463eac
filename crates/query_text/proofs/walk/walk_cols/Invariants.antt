use Rattle.std.proofs.Common.{◌≡◌, drop}
use Rattle.query_text.specs.Walk.{each, scope_of, walk_col, with_made}
use Rattle.query_text.proofs.walk.walk_cols.Given as goal

abbrev pub invariant-loop-col : goal.invariant-loop-col
invariant-loop-col l = with_made l.made (each (walk_col (scope_of l.sources)) (drop l.col-index l.cols)) ≡ each (walk_col (scope_of l.sources)) l.cols
