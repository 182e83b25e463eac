-- What a reader of schedules keeps and answers, against what is meant.
use Rattle.std.specs.Prelude.{◌≡◌, ◌+◌, ◌++◌, ℕ, List, [], Option, Some, None, Result, Ok, Err}
use Rattle.std.specs.Option.{option_to_list}
use Rattle.schedule_sim.specs.Schedules.{schedule_form, schedule_so_far}
use Rattle.schedule_sim.specs.declared.parse.ScheduleFault.{ScheduleFault}
use Rattle.schedule_sim.specs.declared.parse.ScheduleFault.TheVariants as fault
use Rattle.schedule_sim.specs.declared.schedule_reader.ScheduleReader.{ScheduleReader}
use Rattle.schedule_sim.specs.declared.step.Schedule.{Schedule}
use Rattle.schedule_sim.specs.declared.step.Step.{Step}
use Rattle.tx_text.specs.Listing.{Far, ending, items_at, onward, with_items}

-- how far the bytes of a reader go
abbrev pub far_of : ScheduleReader → Far Step
far_of reader = record { line = reader.line; items = reader.steps; rest = reader.held }

-- the reader was fed these bytes, which have no bad line yet
abbrev pub WasFed : ScheduleReader → List ℕ → Type 0
WasFed reader bytes = schedule_so_far bytes ≡ Ok (far_of reader)

-- a reader that has gone so far, or the first bad line, exactly where that is meant, unless memory ran out
abbrev pub GivesReader : Result ScheduleReader ScheduleFault → Result (Far Step) ℕ → Type 0
GivesReader (Ok reader) meant = meant ≡ Ok (far_of reader)
GivesReader (Err fault.NoMemory) meant = Unit {0}
GivesReader (Err (fault.BadLine line)) meant = meant ≡ Err line

-- the steps, or the first bad line, exactly where that is meant
abbrev pub GivesSteps : Result Schedule ℕ → Result (List Step) ℕ → Type 0
GivesSteps (Ok schedule) meant = meant ≡ Ok schedule.steps
GivesSteps (Err line) meant = meant ≡ Err line

-- the same, unless memory ran out
abbrev pub Gives : Result Schedule ScheduleFault → Result (List Step) ℕ → Type 0
Gives (Ok schedule) meant = meant ≡ Ok schedule.steps
Gives (Err fault.NoMemory) meant = Unit {0}
Gives (Err (fault.BadLine line)) meant = meant ≡ Err line

-- the step that a line of this number gives, if it gives one, or that it is bad
abbrev pub GivesLine : Result (Option Step) ScheduleFault → ℕ → Option (List Step) → Type 0
GivesLine (Ok step) number meant = meant ≡ Some (option_to_list step)
GivesLine (Err fault.NoMemory) number meant = Unit {0}
GivesLine (Err (fault.BadLine line)) number meant = (meant ≡ None) × (line ≡ number)

-- the line that a reader has begun ends so
abbrev pub after_line : ScheduleReader → List ℕ → Result (Far Step) ℕ
after_line reader end = with_items reader.steps
    (onward reader.line (items_at schedule_form reader.line (reader.held ++ end)) (Ok (record { line = reader.line + 1; items = []; rest = [] })))

-- or it goes on so, with no newline
abbrev pub after_part : ScheduleReader → List ℕ → Result (Far Step) ℕ
after_part reader part = with_items reader.steps (ending reader.line (reader.held ++ part))
