-- Schedules: `schedule 1`, and then one step a line.
use Rattle.std.specs.Prelude.{◌≡◌, ◌≤◌, ℕ, List, ◌++◌, length, Result, Ok, Err, IsOk, codes}
use Rattle.std.specs.List.{AllByRecursion}
use Rattle.schedule_sim.specs.declared.step.Step.{Step}
use Rattle.tx_text.specs.Listing.{Far, Form, listed, listing, longest_listing, walked, most_items}
use Rattle.schedule_sim.specs.Steps.{IsStep, step_of, step_text}

abbrev pub schedule_form : Form Step
schedule_form = record { header = codes "schedule 1"; item = step_of }

-- the steps of a schedule, or the number of its first bad line
abbrev pub schedule_of : List ℕ → Result (List Step) ℕ
schedule_of bytes = listed schedule_form bytes

-- how far the bytes of one go, or the number of the first bad line that no more bytes mend
abbrev pub schedule_so_far : List ℕ → Result (Far Step) ℕ
schedule_so_far bytes = walked schedule_form bytes

-- a schedule as it is written
abbrev pub schedule_text : List Step → List ℕ
schedule_text steps = listing schedule_form step_text steps

-- a text that is read is that of its steps, each byte of it
abbrev pub SchedulesHaveOneText : Type 0
SchedulesHaveOneText = (bytes : List ℕ) (steps : List Step) → schedule_of bytes ≡ Ok steps → bytes ≡ schedule_text steps

-- and steps are read back from it, at most 1,000,000
abbrev pub SchedulesComeBack : Type 0
SchedulesComeBack = (steps : List Step) → length steps ≤ most_items → AllByRecursion IsStep steps → schedule_of (schedule_text steps) ≡ Ok steps

-- the steps that are read have actors from 1 to 16
abbrev pub SchedulesHaveActors : Type 0
SchedulesHaveActors = (bytes : List ℕ) (steps : List Step) → schedule_of bytes ≡ Ok steps → AllByRecursion IsStep steps

-- bytes that have no bad line but that they end too early are at most so many
abbrev pub SchedulesAreBounded : Type 0
SchedulesAreBounded = (bytes : List ℕ) → IsOk (schedule_so_far bytes) → length bytes ≤ longest_listing

-- and a bad line that no more bytes mend stays the first
abbrev pub BadLinesLast : Type 0
BadLinesLast = (bytes more : List ℕ) (line : ℕ) → schedule_so_far bytes ≡ Err line → schedule_of (bytes ++ more) ≡ Err line
