use Rattle.std.proofs.Common.{◌≡◌, ◌++◌, drop}
use Rattle.report_text.specs.Outcome.{values_text}
use Rattle.report_text.proofs.value.push_values.Given as goal

-- what is written and what is left make the whole
abbrev pub invariant-loop-value : goal.invariant-loop-value
invariant-loop-value l =
    l.out ++ values_text (drop l.value-index l.values) ≡ l.initial.out ++ values_text l.values
