use Rattle.std.proofs.Common.{◌≡◌, ◌+◌, ◌≤◌, drop}
use Rattle.std.specs.List.{count_by}
use Rattle.node_model.specs.Kinds.{is_same}
use Rattle.report_text.proofs.counts.count_of.Given as goal

-- what was counted and what is left are all
abbrev pub invariant-loop-found : goal.invariant-loop-found
invariant-loop-found l =
    (l.count ≤ l.found-index) × (l.count + count_by (is_same l.kind) (drop l.found-index l.kinds) ≡ count_by (is_same l.kind) l.kinds)
