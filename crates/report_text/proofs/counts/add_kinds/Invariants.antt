use Rattle.std.proofs.Common.{◌≡◌, ◌++◌, map, drop}
use Rattle.node_model.specs.Kinds.{kind_of}
use Rattle.report_text.proofs.counts.add_kinds.Given as goal

-- what was added and what is left make the whole
abbrev pub invariant-loop-told : goal.invariant-loop-told
invariant-loop-told l =
    l.kinds.items ++ map (λ told. kind_of told.outcome) (drop l.told-index l.outcomes) ≡ l.initial.kinds.items ++ map (λ told. kind_of told.outcome) l.outcomes
