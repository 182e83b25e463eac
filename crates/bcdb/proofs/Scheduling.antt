-- Pieces of a schedule, one after another: what was read stays a prefix of the file, and a bad line that was met is the file's.
use Rattle.std.proofs.Common.{IfOk, IfSome, List, None, Option, Some, length, refl, subst, sym, take, ◌+◌, ◌++◌, ◌<◌, ◌≡◌, ◌≤◌, ℕ}
use Rattle.std.specs.Prelude.{Err, Result}
use Rattle.std.specs.List.{AllByRecursion}
use Rattle.std.specs.Result.{IsOk}
use Rattle.bcdb.proofs.Taken.{at_size, end_by, file_by, front_by, joined_size}
use Rattle.bcdb.specs.ScheduleReading.{HasFed}
use Rattle.edge_traits.specs.Shelf.{Files, IsPiece}
use Rattle.schedule_sim.specs.Reading.{GivesSteps, WasFed}
use Rattle.schedule_sim.specs.Schedules.{BadLinesLast, SchedulesAreBounded, schedule_of, schedule_so_far}
use Rattle.schedule_sim.specs.Steps.{IsStep}
use Rattle.schedule_sim.specs.declared.schedule_reader.ScheduleReader.{ScheduleReader}
use Rattle.schedule_sim.specs.declared.step.Schedule.{Schedule}
use Rattle.schedule_sim.specs.declared.step.Step.{Step}
use Rattle.tx_text.specs.Listing.{Far, longest_listing}

-- bytes that a reader was fed have no bad line yet
clear : (reader : ScheduleReader) (bytes : List ℕ) → WasFed reader bytes → IsOk (schedule_so_far bytes)
clear reader bytes fed = subst (λ (far : Result (Far Step) ℕ). IsOk far) (sym fed) refl

-- so the file may be read from there on
pub may_go_on : (told : Option Files) (name : List ℕ) (at : ℕ) (reader : ScheduleReader) → HasFed told name at reader → IfSome told (λ files. IsOk (schedule_so_far (take at (files name))))
may_go_on None name at reader read = tt
may_go_on (Some files) name at reader read = subst (λ bytes. IsOk (schedule_so_far bytes)) read.front (clear reader read.bytes read.fed)

module _ (told : Option Files) (name buffer : List ℕ) (at count : ℕ) (old : ScheduleReader) (read : HasFed told name at old) (le : count ≤ length buffer)
    (piece : IfSome told (λ files. IsPiece (files name) at count buffer)) where
  abbrev both : List ℕ
  both = read.bytes ++ take count buffer

  size : length both ≡ at + count
  size = joined_size read.bytes buffer at count read.size le

  front : IfSome told (λ files. both ≡ take (length both) (files name))
  front = front_by told name read.bytes buffer at count read.size le piece read.front

  -- the reading goes on after a piece without a bad line
  pub goes_on : (new : ScheduleReader) → WasFed new both → HasFed told name (at + count) new
  goes_on new fed = record { bytes = both; size = size; fed = fed; front = at_size told name both (at + count) size front }

  -- and has not gone past the longest schedule
  pub within : SchedulesAreBounded → (new : ScheduleReader) → WasFed new both → at + count ≤ longest_listing
  within bounded new fed = subst (λ n. n ≤ longest_listing) size (bounded both (clear new both fed))

  -- a bad line that was met is the file's first
  pub stops : BadLinesLast → (line : ℕ) → schedule_so_far both ≡ Err line → IfSome told (λ files. schedule_of (files name) ≡ Err line)
  stops last line is = file_by told name both (λ bytes. schedule_of bytes ≡ Err line) front (λ more. last both more line is)

-- where no byte comes, the file was read whole
pub ends : (told : Option Files) (name buffer : List ℕ) (at count : ℕ) (reader : ScheduleReader) (result : Result Schedule ℕ) → (read : HasFed told name at reader) → 0 < length buffer → count ≡ 0
    → IfSome told (λ files. IsPiece (files name) at count buffer) → ((bytes : List ℕ) → WasFed reader bytes → GivesSteps result (schedule_of bytes))
    → IfSome told (λ files. GivesSteps result (schedule_of (files name)))
ends told name buffer at count reader result read room none piece gives = by told (end_by told name read.bytes buffer at count room none piece read.front)
  where
    by : (told : Option Files) → IfSome told (λ files. read.bytes ≡ files name) → IfSome told (λ files. GivesSteps result (schedule_of (files name)))
    by None whole = tt
    by (Some files) whole = subst (λ bytes. GivesSteps result (schedule_of bytes)) whole (gives read.bytes read.fed)

-- and the steps have their actors
pub ends_fine : (told : Option Files) (name : List ℕ) (at : ℕ) (reader : ScheduleReader) (result : Result Schedule ℕ) → (read : HasFed told name at reader)
    → ((bytes : List ℕ) → WasFed reader bytes → IfOk result (λ schedule. AllByRecursion IsStep schedule.steps)) → IfOk result (λ schedule. AllByRecursion IsStep schedule.steps)
ends_fine told name at reader result read fine = fine read.bytes read.fed
