use Rattle.std.proofs.Common.{◌≡◌, ◌++◌, flat_map, drop}
use Rattle.report_text.specs.Summary.{count_line}
use Rattle.report_text.proofs.counts.push_counts.Given as goal

-- what is written and what is left make the whole
abbrev pub invariant-loop-kind : goal.invariant-loop-kind
invariant-loop-kind l =
    l.out ++ flat_map (count_line l.kinds) (drop l.kind-index l.listed) ≡ l.initial.out ++ flat_map (count_line l.kinds) l.listed
