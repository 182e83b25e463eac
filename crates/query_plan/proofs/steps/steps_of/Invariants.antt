use Rattle.std.proofs.Common.{◌≡◌, ◌++◌, drop}
use Rattle.query_plan.specs.Plan.{steps_from, steps_of}
use Rattle.query_plan.proofs.steps.steps_of.Given as goal

abbrev pub invariant-loop-source : goal.invariant-loop-source
invariant-loop-source l = l.steps ++ steps_from l.tables l.select.comparisons l.source (drop l.source l.select.sources) ≡ steps_of l.tables l.select
