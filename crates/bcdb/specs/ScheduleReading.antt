-- A schedule that is read piece by piece.
use Rattle.std.specs.Prelude.{IfOk, IfSome, List, Option, length, take, ℕ, ◌+◌, ◌<◌, ◌≡◌, ◌≤◌}
use Rattle.std.specs.List.{AllByRecursion}
use Rattle.bcdb.specs.declared.schedule.SchedulePiece.TheVariants as piece
use Rattle.bcdb.specs.declared.schedule.SchedulePiece.{SchedulePiece}
use Rattle.edge_traits.specs.Shelf.{Files}
use Rattle.schedule_sim.specs.Reading.{GivesSteps, WasFed}
use Rattle.schedule_sim.specs.Schedules.{schedule_of}
use Rattle.schedule_sim.specs.Steps.{IsStep}
use Rattle.schedule_sim.specs.declared.schedule_reader.ScheduleReader.{ScheduleReader}
use Rattle.tx_text.specs.Listing.{longest_listing}

-- so many bytes of a file were read, with no bad line yet; they are its prefix if the shelf tells its files
pub record HasFed (told : Option Files) (name : List ℕ) (count : ℕ) (reader : ScheduleReader) : Type 0 where
  pub bytes : List ℕ
  pub size : length bytes ≡ count
  pub fed : WasFed reader bytes
  pub front : IfSome told (λ files. bytes ≡ take count (files name))

-- what one more piece of a file comes to, where so many bytes were read before it
abbrev pub LeadsOn : SchedulePiece → Option Files → List ℕ → ℕ → Type 0
LeadsOn (piece.More count reader) told name at = (0 < count) × (at + count ≤ longest_listing) × HasFed told name (at + count) reader
LeadsOn (piece.Whole read) told name at =
    IfSome told (λ files. GivesSteps read (schedule_of (files name))) × IfOk read (λ schedule. AllByRecursion IsStep schedule.steps)
