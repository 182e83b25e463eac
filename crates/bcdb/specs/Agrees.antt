-- The answer of a simulation beside that of a run.
use Rattle.std.specs.Prelude.{Bool, List, None, Option, Some, [], false, true, ◌++◌, ◌≡◌, ℕ}
use Rattle.bcdb.specs.Answer.{over_settings}
use Rattle.bcdb.specs.ProgramAnswer.{ProgramAnswer}
use Rattle.bcdb.specs.declared.status.Status.TheVariants.{AppRefused, ArrivalRefused, ChainRefused, DigestRefused, Done, NoMemory, OrderRefused, ProofRefused, QueryRefused, ReadFault, ScheduleRefused, Usage, WriteFault}
use Rattle.bcdb.specs.declared.status.Status.{Status}
use Rattle.cli_words.specs.declared.settings.Settings.TheVariants.{Run, Simulate}
use Rattle.cli_words.specs.declared.settings.Settings.{Settings}
use Rattle.edge_traits.specs.Shelf.{Files}

-- what arrives or the schedule is refused, for a bad line or since it is short
abbrev pub is_refused : Status → Bool
is_refused Done = false
is_refused Usage = false
is_refused ReadFault = false
is_refused AppRefused = false
is_refused ChainRefused = false
is_refused ArrivalRefused = true
is_refused WriteFault = false
is_refused NoMemory = false
is_refused QueryRefused = false
is_refused ScheduleRefused = true
is_refused OrderRefused = false
is_refused DigestRefused = false
is_refused ProofRefused = false

-- the second answer is the first, and then more lines, if these are asked for
pub record Adds (asked : Bool) (first second : ProgramAnswer) : Type 0 where
  pub status : second.status ≡ first.status
  pub more : List ℕ
  pub bytes : second.bytes ≡ first.bytes ++ more
  pub none : asked ≡ false → more ≡ []

-- whatever arrives and whatever the schedule, where these are not refused the answer is that of a run of one node over the same blocks on the same
-- application, and then the journal, if that is asked for
abbrev pub AnswersAsRun : Option Settings → Files → Type 0
AnswersAsRun None files = Unit {0}
AnswersAsRun (Some (Simulate app blocks schedule arrivals flags)) files =
    is_refused (over_settings (Some (Simulate app blocks schedule arrivals flags)) files).status ≡ false
    → Adds flags.trace (over_settings (Some (Run app blocks None 1 0 flags)) files) (over_settings (Some (Simulate app blocks schedule arrivals flags)) files)
AnswersAsRun (Some _) files = Unit {0}
