-- What becomes of a held job, whose id may be settled in the block of a number.
use Rattle.node_core.specs.declared.jobs.Record.{Record}
use Rattle.node_core.specs.declared.jobs.Stage.TheVariants as stage
use Rattle.node_core.specs.declared.jobs.Stage.{Stage}
use Rattle.std.specs.Prelude.{None, Option, Some, ℕ}

-- at the end of its run
abbrev pub stage_at_end : Option ℕ → Record → Stage
stage_at_end None recorded = stage.Done recorded
stage_at_end (Some number) recorded = stage.Dropped

-- when it is given up
abbrev pub stage_given_back : Option ℕ → Stage
stage_given_back None = stage.Waiting
stage_given_back (Some number) = stage.Dropped
