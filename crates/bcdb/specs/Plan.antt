-- The files that a command reads, in order, each with what it must be. Which of their bytes may be asked for, whose failed read decides, and that all of them
-- are what they must be, are folds over that list: so a command says here once what it reads.
use Rattle.std.specs.Prelude.{Err, IfSome, List, None, Ok, Option, Result, Some, [], suc, take, zero, ℕ, ◌+◌, ◌++◌, ◌≡◌, ◌⊎◌, ◌∷◌}
use Rattle.std.specs.Result.{IsOk}
use Rattle.bcdb.specs.Accepted.{accepted}
use Rattle.bcdb.specs.ArrivalFiles.{file_at, node_file}
use Rattle.bcdb.specs.PeerFiles.{digests_read}
use Rattle.bcdb.specs.Sources.{query_sources, run_sources, simulation_sources}
use Rattle.bcdb.specs.VerificationAnswer.{proof_read}
use Rattle.bcdb.specs.declared.fault.FilesFault.TheVariants as fault
use Rattle.bcdb.specs.declared.fault.FilesFault.{FilesFault}
use Rattle.bcdb.specs.declared.sources.Sources.{Sources}
use Rattle.chain_file.specs.Chain.{chain, lasting}
use Rattle.cli_words.specs.declared.settings.Settings.TheVariants.{Checkpoint, Compare, Load, Order, Provenance, Prove, Query, Run, Seal, Simulate, Verify}
use Rattle.cli_words.specs.declared.settings.Settings.{Settings}
use Rattle.edge_traits.specs.Causes.{AllowsFront, Counts, Leave, Rose, piece_bytes}
use Rattle.edge_traits.specs.Shelf.{Files}
use Rattle.schedule_sim.specs.Schedules.{schedule_of, schedule_so_far}
use Rattle.tx_text.specs.Arrivals.{arrivals, arrived}

-- ---- what is read

-- an application, calls, a schedule, blocks, digests or a proof
pub data FileKind : Type 0 where
  AppFile : FileKind
  CallsFile : FileKind
  ScheduleFile : FileKind
  BlocksFile : FileKind
  DigestsFile : FileKind
  ProofFile : FileKind

pub record PlannedFile : Type 0 where
  pub name : List ℕ
  pub kind : FileKind

-- the bytes are what a file of the kind must be: an application that is accepted, calls, a schedule, digests or a proof
-- without a bad line, blocks to the file's end
abbrev pub IsSound : FileKind → List ℕ → Type 0
IsSound AppFile bytes = IsOk (accepted bytes)
IsSound CallsFile bytes = IsOk (arrivals bytes)
IsSound ScheduleFile bytes = IsOk (schedule_of bytes)
IsSound BlocksFile bytes = (chain bytes).1 ≡ None
IsSound DigestsFile bytes = IsOk (digests_read bytes)
IsSound ProofFile bytes = IsOk (proof_read bytes)

-- one file
abbrev pub planned : FileKind → List ℕ → List PlannedFile
planned kind name = record { name = name; kind = kind } ∷ []

-- one file, if it is named
abbrev pub planned_if : FileKind → Option (List ℕ) → List PlannedFile
planned_if kind None = []
planned_if kind (Some name) = planned kind name

-- what arrives at so many nodes, or what so many clients submit; they are numbered one after another
abbrev pub arrivals_plan : Option (List ℕ) → (node count : ℕ) → List PlannedFile
arrivals_plan prefix node zero = []
arrivals_plan prefix node (suc count) = planned_if CallsFile (file_at prefix node) ++ arrivals_plan prefix (node + 1) count

-- the digests of so many peers
abbrev pub digests_plan : List ℕ → (peer count : ℕ) → List PlannedFile
digests_plan prefix peer zero = []
digests_plan prefix peer (suc count) = planned DigestsFile (node_file prefix peer) ++ digests_plan prefix (peer + 1) count

-- the application first, then what arrives, then the schedule, then the blocks
abbrev pub plan_from_schedule : Sources → List PlannedFile
plan_from_schedule asked = planned_if ScheduleFile asked.schedule ++ planned BlocksFile asked.blocks

abbrev pub plan_from_arrivals : Sources → List PlannedFile
plan_from_arrivals asked = arrivals_plan asked.arrivals 1 asked.nodes ++ plan_from_schedule asked

abbrev pub sources_plan : Sources → List PlannedFile
sources_plan asked = planned AppFile asked.app ++ plan_from_arrivals asked

-- the files that each command reads
abbrev pub plan_of : Option Settings → List PlannedFile
plan_of None = []
plan_of (Some (Run app blocks arrivals nodes executors flags)) = sources_plan (run_sources app blocks arrivals nodes)
plan_of (Some (Simulate app blocks schedule arrivals flags)) = sources_plan (simulation_sources app blocks schedule arrivals)
plan_of (Some (Provenance app blocks query)) = sources_plan (query_sources app blocks)
plan_of (Some (Seal blocks)) = planned BlocksFile blocks
plan_of (Some (Load number)) = []
plan_of (Some (Order clients count most)) = arrivals_plan (Some clients) 1 count
plan_of (Some (Checkpoint app blocks heads)) = sources_plan (query_sources app blocks)
plan_of (Some (Compare files count)) = digests_plan files 1 count
plan_of (Some (Prove app blocks block write)) = sources_plan (query_sources app blocks)
plan_of (Some (Verify proof head)) = planned ProofFile proof
plan_of (Some (Query app blocks height text)) = sources_plan (query_sources app blocks)

-- each file is what it must be
abbrev pub AreSound : List PlannedFile → Files → Type 0
AreSound [] files = Unit {0}
AreSound (file ∷ rest) files = IsSound file.kind (files file.name) × AreSound rest files

-- ---- whose read failed

-- a read failed of one of the files
abbrev pub RoseAt : List PlannedFile → Counts → Counts → Type 0
RoseAt [] before now = ⊥
RoseAt (file ∷ rest) before now = Rose (before file.name) (now file.name) ⊎ RoseAt rest before now

-- a read failed of a file whose turn came: each file before it is what it must be
abbrev pub RoseIn : List PlannedFile → Files → Counts → Counts → Type 0
RoseIn [] files before now = ⊥
RoseIn (file ∷ rest) files before now = Rose (before file.name) (now file.name) ⊎ (IsSound file.kind (files file.name) × RoseIn rest files before now)

-- what is answered tells of a failed read where the counts rose so, and else each count is as it was
abbrev pub Counted : {T : Type 0} → Result T FilesFault → (rose : Type 0) → Counts → Counts → Type 0
Counted (Err fault.Failed) rose before now = rose
Counted (Err fault.NoMemory) rose before now = now ≡ before
Counted (Ok value) rose before now = now ≡ before

-- ---- what may be asked for

-- an application may be read as far as it can be accepted and one byte more
abbrev pub AllowsApplication : Leave → List ℕ → Type 0
AllowsApplication may_read name = AllowsFront may_read name 1048577

-- calls may be asked for 65,536 bytes after each prefix that has no fault that no more bytes mend
abbrev pub AllowsCalls : Option Files → Leave → List ℕ → Type 0
AllowsCalls told may_read name = (at : ℕ) → IfSome told (λ files. IsOk (arrived (take at (files name)))) → may_read name at piece_bytes

-- and so may a schedule
abbrev pub AllowsSchedule : Option Files → Leave → List ℕ → Type 0
AllowsSchedule told may_read name = (at : ℕ) → IfSome told (λ files. IsOk (schedule_so_far (take at (files name)))) → may_read name at piece_bytes

-- a block file may be asked for 65,536 bytes after each of its prefixes that has no fault but that it ends too early
abbrev pub AllowsBlocks : Option Files → Leave → List ℕ → Type 0
AllowsBlocks told may_read name = (at : ℕ) → IfSome told (λ files. lasting (chain (take at (files name))).1 ≡ None) → may_read name at piece_bytes

-- a digest file or a proof file as far as it may go and one byte more
abbrev pub AllowsDigests : Leave → List ℕ → Type 0
AllowsDigests may_read name = AllowsFront may_read name 73000011

abbrev pub AllowsProof : Leave → List ℕ → Type 0
AllowsProof may_read name = AllowsFront may_read name 262145

abbrev pub AllowsFile : FileKind → Option Files → Leave → List ℕ → Type 0
AllowsFile AppFile told may_read name = AllowsApplication may_read name
AllowsFile CallsFile told may_read name = AllowsCalls told may_read name
AllowsFile ScheduleFile told may_read name = AllowsSchedule told may_read name
AllowsFile BlocksFile told may_read name = AllowsBlocks told may_read name
AllowsFile DigestsFile told may_read name = AllowsDigests may_read name
AllowsFile ProofFile told may_read name = AllowsProof may_read name

-- each file may be read so once those before it are what they must be
abbrev pub AllowsPlan : List PlannedFile → Option Files → Leave → Type 0
AllowsPlan [] told may_read = Unit {0}
AllowsPlan (file ∷ rest) told may_read =
    AllowsFile file.kind told may_read file.name × (IfSome told (λ files. IsSound file.kind (files file.name)) → AllowsPlan rest told may_read)
