-- The laws of schedules that are carried out, each the contract of a function of the module `laws`.
use Rattle.node_model.specs.Fold.{fold}
use Rattle.node_model.specs.Journals.{IsLegal, delivered, world}
use Rattle.schedule_sim.specs.Running.{Given, scheduled}
use Rattle.schedule_sim.specs.declared.step.Step.{Step}
use Rattle.std.specs.Prelude.{List, length, ◌≡◌}
use mathlib.Core.List.{IsPrefix}

-- the journal of a schedule is one that steps can make, and what the schedule comes to is the state of that journal
abbrev pub SchedulesAreLegal : Type 0
SchedulesAreLegal = (given : Given) (lines : List Step)
    → IsLegal given.app (scheduled given lines).journal × (world given.app (scheduled given lines).journal ≡ scheduled given lines)

-- it delivers the blocks in their order
abbrev pub SchedulesDeliver : Type 0
SchedulesDeliver = (given : Given) (lines : List Step) → IsPrefix (delivered (scheduled given lines).journal) given.blocks

-- so where all blocks are sealed, each was delivered, and what is sealed is their fold
abbrev pub SchedulesSealTheFold : Type 0
SchedulesSealTheFold = (given : Given) (lines : List Step) → length (scheduled given lines).sealed ≡ length given.blocks
    → (delivered (scheduled given lines).journal ≡ given.blocks) × ((scheduled given lines).sealed ≡ fold given.app given.blocks)
