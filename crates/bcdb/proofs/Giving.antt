-- What was read of the files of a command, file by file.
use Rattle.std.proofs.Common.{IfSome, List, None, Option, Some, ap, refl, subst, sym, ◌∙◌, ◌≡◌, ℕ}
use Rattle.std.specs.Prelude.{Err, Ok, Result}
use Rattle.std.specs.Result.{IsOk}
use Rattle.bcdb.proofs.Planning.{allows_rest, arrivals_sound, counted_rest, keeps_plan, one_turn, steps_sound, turn_first, turn_rest}
use Rattle.bcdb.specs.Accepted.{accepted}
use Rattle.bcdb.specs.ArrivalFiles.{all_arrived}
use Rattle.bcdb.specs.Folds.{Folds, app_of}
use Rattle.bcdb.specs.Given.{AreFolded, AreGiven, AreInputs}
use Rattle.bcdb.specs.Plan.{AllowsPlan, AppFile, AreSound, BlocksFile, Counted, RoseAt, RoseIn, ScheduleFile, arrivals_plan, plan_from_arrivals, plan_from_schedule, planned, planned_if, sources_plan}
use Rattle.bcdb.specs.Sources.{steps_in}
use Rattle.bcdb.specs.declared.fault.FilesFault.TheVariants as fault
use Rattle.bcdb.specs.declared.fault.FilesFault.{FilesFault}
use Rattle.bcdb.specs.declared.folding.Folded.{Folded}
use Rattle.bcdb.specs.declared.given.BadSource.TheVariants as bad
use Rattle.bcdb.specs.declared.given.BadSource.{BadSource}
use Rattle.bcdb.specs.declared.given.Given.{Given}
use Rattle.bcdb.specs.declared.given.Inputs.{Inputs}
use Rattle.bcdb.specs.declared.refusal.BadArrivals.{BadArrivals}
use Rattle.bcdb.specs.declared.refusal.Refusal.{Refusal}
use Rattle.bcdb.specs.declared.sources.Sources.{Sources}
use Rattle.chain_file.specs.Chain.{chain}
use Rattle.edge_traits.specs.Causes.{Counts, Keeps, Leave}
use Rattle.edge_traits.specs.Shelf.{Files}
use Rattle.proc_check.specs.declared.checked.Checked.{Checked}
use Rattle.proc_syntax.specs.declared.call.Block.{Block}
use Rattle.proc_syntax.specs.declared.call.Tx.{Tx}
use Rattle.proc_syntax.specs.declared.tree.App.{App}
use Rattle.schedule_sim.specs.declared.step.Schedule.{Schedule}
use Rattle.schedule_sim.specs.declared.step.Step.{Step}

-- ---- an application that was accepted

app_sound : (told : Option Files) (name : List ℕ) (app : App) → IfSome told (λ files. accepted (files name) ≡ Ok app) → IfSome told (AreSound (planned AppFile name))
app_sound None name app is = tt
app_sound (Some files) name app is = (subst (λ (found : Result App Refusal). IsOk found) (sym is) refl, tt)

-- then the files after it may be read
pub after_app : (told : Option Files) (old new : Leave) (asked : Sources) (app : App) → AllowsPlan (sources_plan asked) told old → Keeps old new
    → IfSome told (λ files. accepted (files asked.app) ≡ Ok app) → AllowsPlan (plan_from_arrivals asked) told new
after_app told old new asked app allows keeps is =
    keeps_plan (plan_from_arrivals asked) told old new keeps (allows_rest (planned AppFile asked.app) (plan_from_arrivals asked) told old allows (app_sound told asked.app app is))

pub app_turn : (told : Option Files) (asked : Sources) (app : App) (before now : Counts) → IfSome told (λ files. accepted (files asked.app) ≡ Ok app)
    → IfSome told (λ files. RoseIn (plan_from_arrivals asked) files before now) → IfSome told (λ files. RoseIn (sources_plan asked) files before now)
app_turn told asked app before now is turn = turn_rest told (planned AppFile asked.app) (plan_from_arrivals asked) before now (app_sound told asked.app app is) turn

pub app_failed : (told : Option Files) (asked : Sources) (before now : Counts) → RoseAt (planned AppFile asked.app) before now → IfSome told (λ files. RoseIn (sources_plan asked) files before now)
app_failed told asked before now rose =
    turn_first told (planned AppFile asked.app) (plan_from_arrivals asked) before now (one_turn told AppFile (Some asked.app) before now rose)

pub app_given : (told : Option Files) (asked : Sources) (app : App) (read : Result Inputs BadSource) → IfSome told (λ files. accepted (files asked.app) ≡ Ok app)
    → IfSome told (λ files. accepted (files asked.app) ≡ Ok app → AreInputs read asked files) → IfSome told (λ files. AreInputs read asked files)
app_given None asked app read is gives = tt
app_given (Some files) asked app read is gives = gives is

-- ---- what arrives

pub after_arrivals : (told : Option Files) (old new : Leave) (asked : Sources) (txs : List (List Tx)) → AllowsPlan (plan_from_arrivals asked) told old → Keeps old new
    → IfSome told (λ files. all_arrived asked.arrivals 1 asked.nodes files ≡ Ok txs) → AllowsPlan (plan_from_schedule asked) told new
after_arrivals told old new asked txs allows keeps is =
    keeps_plan (plan_from_schedule asked) told old new keeps
    (allows_rest (arrivals_plan asked.arrivals 1 asked.nodes) (plan_from_schedule asked) told old allows (arrivals_sound told asked.arrivals 1 asked.nodes txs is))

pub arrivals_turn : (told : Option Files) (asked : Sources) (txs : List (List Tx)) (before now : Counts) → IfSome told (λ files. all_arrived asked.arrivals 1 asked.nodes files ≡ Ok txs)
    → IfSome told (λ files. RoseIn (plan_from_schedule asked) files before now) → IfSome told (λ files. RoseIn (plan_from_arrivals asked) files before now)
arrivals_turn told asked txs before now is turn =
    turn_rest told (arrivals_plan asked.arrivals 1 asked.nodes) (plan_from_schedule asked) before now (arrivals_sound told asked.arrivals 1 asked.nodes txs is) turn

pub arrivals_given : (told : Option Files) (asked : Sources) (app : App) (txs : List (List Tx)) (read : Result Inputs BadSource)
    → IfSome told (λ files. all_arrived asked.arrivals 1 asked.nodes files ≡ Ok txs)
    → IfSome told (λ files. accepted (files asked.app) ≡ Ok app → all_arrived asked.arrivals 1 asked.nodes files ≡ Ok txs → AreInputs read asked files)
    → IfSome told (λ files. accepted (files asked.app) ≡ Ok app → AreInputs read asked files)
arrivals_given None asked app txs read is gives = tt
arrivals_given (Some files) asked app txs read is gives = λ accepts. gives accepts is

pub arrivals_bad : (told : Option Files) (asked : Sources) (app : App) (why : BadArrivals) → IfSome told (λ files. all_arrived asked.arrivals 1 asked.nodes files ≡ Err why)
    → IfSome told (λ files. accepted (files asked.app) ≡ Ok app → AreInputs (Err (bad.Arrivals why)) asked files)
arrivals_bad None asked app why is = tt
arrivals_bad (Some files) asked app why is = λ accepts. (subst (λ (found : Result App Refusal). IsOk found) (sym accepts) refl, is)

-- a read of what arrives that failed had its turn
pub arrivals_failed : {T : Type 0} {U : Type 0} (told : Option Files) (asked : Sources) (result : Result T FilesFault) (other : Result U FilesFault) (why : FilesFault) (before now : Counts)
    → (result ≡ Err fault.Failed → IfSome told (λ files. RoseIn (arrivals_plan asked.arrivals 1 asked.nodes) files before now)) → result ≡ Err why → other ≡ Err why → other ≡ Err fault.Failed
    → IfSome told (λ files. RoseIn (plan_from_arrivals asked) files before now)
arrivals_failed told asked result other fault.Failed before now turn is same failed =
    turn_first told (arrivals_plan asked.arrivals 1 asked.nodes) (plan_from_schedule asked) before now (turn is)
arrivals_failed told asked result other fault.NoMemory before now turn is same failed = absurd (cc)

-- ---- a schedule

pub after_schedule : (told : Option Files) (old new : Leave) (asked : Sources) (steps : List Step) → AllowsPlan (plan_from_schedule asked) told old → Keeps old new
    → IfSome told (λ files. steps_in asked.schedule files ≡ Ok steps) → AllowsPlan (planned BlocksFile asked.blocks) told new
after_schedule told old new asked steps allows keeps is =
    keeps_plan (planned BlocksFile asked.blocks) told old new keeps
    (allows_rest (planned_if ScheduleFile asked.schedule) (planned BlocksFile asked.blocks) told old allows (steps_sound told asked.schedule steps is))

-- a read of the blocks that failed had its turn
pub blocks_failed : (told : Option Files) (asked : Sources) (steps : List Step) (before now : Counts) → IfSome told (λ files. steps_in asked.schedule files ≡ Ok steps)
    → RoseAt (planned BlocksFile asked.blocks) before now → IfSome told (λ files. RoseIn (plan_from_schedule asked) files before now)
blocks_failed told asked steps before now is rose =
    turn_rest told (planned_if ScheduleFile asked.schedule) (planned BlocksFile asked.blocks) before now (steps_sound told asked.schedule steps is)
    (one_turn told BlocksFile (Some asked.blocks) before now rose)

pub schedule_failed : (told : Option Files) (asked : Sources) (before now : Counts) → RoseAt (planned_if ScheduleFile asked.schedule) before now
    → IfSome told (λ files. RoseIn (plan_from_schedule asked) files before now)
schedule_failed told asked before now rose =
    turn_first told (planned_if ScheduleFile asked.schedule) (planned BlocksFile asked.blocks) before now (one_turn told ScheduleFile asked.schedule before now rose)

pub all_given : (told : Option Files) (asked : Sources) (inputs : Inputs) → IfSome told (λ files. steps_in asked.schedule files ≡ Ok inputs.schedule.steps)
    → IfSome told (λ files. accepted (files asked.app) ≡ Ok inputs.app.app → all_arrived asked.arrivals 1 asked.nodes files ≡ Ok inputs.arrivals → AreInputs (Ok inputs) asked files)
all_given None asked inputs steps = tt
all_given (Some files) asked inputs steps = λ accepts arrive. (accepts, arrive, steps)

pub schedule_bad : (told : Option Files) (asked : Sources) (app : App) (txs : List (List Tx)) (line : ℕ) → IfSome told (λ files. steps_in asked.schedule files ≡ Err line)
    → IfSome told (λ files. accepted (files asked.app) ≡ Ok app → all_arrived asked.arrivals 1 asked.nodes files ≡ Ok txs → AreInputs (Err (bad.Schedule line)) asked files)
schedule_bad None asked app txs line is = tt
schedule_bad (Some files) asked app txs line is = λ accepts arrive.
    (subst (λ (found : Result App Refusal). IsOk found) (sym accepts) refl, subst (λ (found : Result (List (List Tx)) BadArrivals). IsOk found) (sym arrive) refl, is)

-- ---- the blocks

app_read : (told : Option Files) (asked : Sources) (inputs : Inputs) → IfSome told (AreInputs (Ok inputs) asked) → IfSome told (λ files. accepted (files asked.app) ≡ Ok inputs.app.app)
app_read None asked inputs are = tt
app_read (Some files) asked inputs are = are.0

arrivals_read : (told : Option Files) (asked : Sources) (inputs : Inputs) → IfSome told (AreInputs (Ok inputs) asked) → IfSome told (λ files. all_arrived asked.arrivals 1 asked.nodes files ≡ Ok inputs.arrivals)
arrivals_read None asked inputs are = tt
arrivals_read (Some files) asked inputs are = are.1

schedule_read : (told : Option Files) (asked : Sources) (inputs : Inputs) → IfSome told (AreInputs (Ok inputs) asked) → IfSome told (λ files. steps_in asked.schedule files ≡ Ok inputs.schedule.steps)
schedule_read None asked inputs are = tt
schedule_read (Some files) asked inputs are = are.2

-- once each file before the blocks is what it must be, a read of these that failed had its turn
blocks_turn : (told : Option Files) (asked : Sources) (inputs : Inputs) (before now : Counts) → IfSome told (AreInputs (Ok inputs) asked) → RoseAt (planned BlocksFile asked.blocks) before now
    → IfSome told (λ files. RoseIn (sources_plan asked) files before now)
blocks_turn told asked inputs before now are rose =
    app_turn told asked inputs.app.app before now (app_read told asked inputs are)
    (arrivals_turn told asked inputs.arrivals before now (arrivals_read told asked inputs are)
    (blocks_failed told asked inputs.schedule.steps before now (schedule_read told asked inputs are) rose))

pub blocks_turned : {T : Type 0} (result : Result T FilesFault) (told : Option Files) (asked : Sources) (inputs : Inputs) (before now : Counts) → IfSome told (AreInputs (Ok inputs) asked)
    → Counted result (RoseAt (planned BlocksFile asked.blocks) before now) before now → result ≡ Err fault.Failed → IfSome told (λ files. RoseIn (sources_plan asked) files before now)
blocks_turned (Ok value) told asked inputs before now are counted failed = absurd (cc)
blocks_turned (Err fault.Failed) told asked inputs before now are counted failed = blocks_turn told asked inputs before now are counted
blocks_turned (Err fault.NoMemory) told asked inputs before now are counted failed = absurd (cc)

pub blocks_counted : {T : Type 0} (result : Result T FilesFault) (asked : Sources) (before now : Counts) → Counted result (RoseAt (planned BlocksFile asked.blocks) before now) before now
    → Counted result (RoseAt (sources_plan asked) before now) before now
blocks_counted result asked before now counted =
    counted_rest result (planned AppFile asked.app) (plan_from_arrivals asked) before now
    (counted_rest result (arrivals_plan asked.arrivals 1 asked.nodes) (plan_from_schedule asked) before now
    (counted_rest result (planned_if ScheduleFile asked.schedule) (planned BlocksFile asked.blocks) before now counted))

-- what the blocks come to is what is given, if the files before them are what was read of them
pub told_by : (told : Option Files) (Read Given : Files → Type 0) → IfSome told (λ files. Read files → Given files) → IfSome told Read → IfSome told Given
told_by None Read Given gives are = tt
told_by (Some files) Read Given gives are = gives are

pub all_read : (told : Option Files) (asked : Sources) (inputs : Inputs) (given : Given) → given.app ≡ inputs.app → given.arrivals ≡ inputs.arrivals → given.schedule ≡ inputs.schedule
    → IfSome told (λ files. chain (files asked.blocks) ≡ (given.read.blocks, given.read.fault)) → IfSome told (λ files. AreInputs (Ok inputs) asked files → AreGiven (Ok given) asked files)
all_read None asked inputs given app arrivals schedule reads = tt
all_read (Some files) asked inputs given app arrivals schedule reads = λ are. (
  are.0 ∙ ap (λ (checked : Checked). Ok checked.app) (sym app),
  are.1 ∙ ap Ok (sym arrivals),
  are.2 ∙ ap (λ (kept : Schedule). Ok kept.steps) (sym schedule),
  reads,
)

pub all_folded : (told : Option Files) (asked : Sources) (height : ℕ) (inputs : Inputs) (folded : Folded) (blocks : List Block) → app_of folded ≡ inputs.app.app → Folds height blocks folded
    → IfSome told (λ files. chain (files asked.blocks) ≡ (blocks, folded.fault)) → IfSome told (λ files. AreInputs (Ok inputs) asked files → AreFolded height (Ok folded) asked files)
all_folded None asked height inputs folded blocks same folds reads = tt
all_folded (Some files) asked height inputs folded blocks same folds reads = λ are. (
  are.0 ∙ ap Ok (sym same),
  subst (λ (found : Result (List (List Tx)) BadArrivals). IsOk found) (sym are.1) refl,
  (blocks, (folds, reads)),
)
