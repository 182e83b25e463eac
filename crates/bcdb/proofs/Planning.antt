-- Files that are read in order: what may be asked for, whose failed read decides, and what was read, of a plan that is two plans one after the other.
use Rattle.std.proofs.Common.{IfSome, List, None, Option, Some, [], inl, inr, refl, subst, suc, sym, zero, ◌+◌, ◌++◌, ◌≡◌, ◌∷◌, ℕ}
use Rattle.std.specs.Prelude.{Err, Ok, Result}
use Rattle.std.specs.Result.{IsOk}
use Rattle.bcdb.specs.ArrivalFiles.{all_arrived, arrived_before, arrived_in, file_at}
use Rattle.bcdb.specs.Plan.{AllowsFile, AllowsPlan, AppFile, AreSound, BlocksFile, CallsFile, Counted, DigestsFile, FileKind, IsSound, PlannedFile, ProofFile, RoseAt, RoseIn, ScheduleFile, arrivals_plan, planned, planned_if}
use Rattle.bcdb.specs.Sources.{steps_in}
use Rattle.bcdb.specs.declared.fault.FilesFault.TheVariants as fault
use Rattle.bcdb.specs.declared.fault.FilesFault.{FilesFault}
use Rattle.bcdb.specs.declared.refusal.BadArrivals.{BadArrivals}
use Rattle.edge_traits.specs.Causes.{Counts, Keeps, Leave, Rose}
use Rattle.edge_traits.specs.Shelf.{Files}
use Rattle.proc_syntax.specs.declared.call.Tx.{Tx}
use Rattle.schedule_sim.specs.declared.step.Step.{Step}

-- ---- what may be read

-- what may be read can still be read
keeps_file : (kind : FileKind) (told : Option Files) (old new : Leave) (name : List ℕ) → Keeps old new → AllowsFile kind told old name → AllowsFile kind told new name
keeps_file AppFile told old new name keeps allows = λ at lt. keeps name at _ (allows at lt)
keeps_file CallsFile told old new name keeps allows = λ at clear. keeps name at 65536 (allows at clear)
keeps_file ScheduleFile told old new name keeps allows = λ at clear. keeps name at 65536 (allows at clear)
keeps_file BlocksFile told old new name keeps allows = λ at clear. keeps name at 65536 (allows at clear)
keeps_file DigestsFile told old new name keeps allows = λ at lt. keeps name at _ (allows at lt)
keeps_file ProofFile told old new name keeps allows = λ at lt. keeps name at _ (allows at lt)

pub keeps_plan : (plan : List PlannedFile) (told : Option Files) (old new : Leave) → Keeps old new → AllowsPlan plan told old → AllowsPlan plan told new
keeps_plan [] told old new keeps allows = tt
keeps_plan (file ∷ rest) told old new keeps allows =
    (keeps_file file.kind told old new file.name keeps allows.0, λ sound. keeps_plan rest told old new keeps (allows.1 sound))

-- of two plans the first may be read
pub allows_first : (first rest : List PlannedFile) (told : Option Files) (may_read : Leave) → AllowsPlan (first ++ rest) told may_read → AllowsPlan first told may_read
allows_first [] rest told may_read allows = tt
allows_first (file ∷ more) rest told may_read allows = (allows.0, λ sound. allows_first more rest told may_read (allows.1 sound))

sound_head : (told : Option Files) (file : PlannedFile) (more : List PlannedFile) → IfSome told (AreSound (file ∷ more)) → IfSome told (λ files. IsSound file.kind (files file.name))
sound_head None file more sound = tt
sound_head (Some files) file more sound = sound.0

sound_tail : (told : Option Files) (file : PlannedFile) (more : List PlannedFile) → IfSome told (AreSound (file ∷ more)) → IfSome told (AreSound more)
sound_tail None file more sound = tt
sound_tail (Some files) file more sound = sound.1

-- and the second once the files of the first are what they must be
pub allows_rest : (first rest : List PlannedFile) (told : Option Files) (may_read : Leave) → AllowsPlan (first ++ rest) told may_read → IfSome told (AreSound first) → AllowsPlan rest told may_read
allows_rest [] rest told may_read allows sound = allows
allows_rest (file ∷ more) rest told may_read allows sound =
    allows_rest more rest told may_read (allows.1 (sound_head told file more sound)) (sound_tail told file more sound)

-- ---- whose read failed

pub rose_first : (first rest : List PlannedFile) (before now : Counts) → RoseAt first before now → RoseAt (first ++ rest) before now
rose_first [] rest before now rose = absurd rose
rose_first (file ∷ more) rest before now (inl rose) = inl rose
rose_first (file ∷ more) rest before now (inr rose) = inr (rose_first more rest before now rose)

pub rose_rest : (first rest : List PlannedFile) (before now : Counts) → RoseAt rest before now → RoseAt (first ++ rest) before now
rose_rest [] rest before now rose = rose
rose_rest (file ∷ more) rest before now rose = inr (rose_rest more rest before now rose)

turn_first_in : (first rest : List PlannedFile) (files : Files) (before now : Counts) → RoseIn first files before now → RoseIn (first ++ rest) files before now
turn_first_in [] rest files before now rose = absurd rose
turn_first_in (file ∷ more) rest files before now (inl rose) = inl rose
turn_first_in (file ∷ more) rest files before now (inr (sound, rose)) = inr (sound, turn_first_in more rest files before now rose)

turn_rest_in : (first rest : List PlannedFile) (files : Files) (before now : Counts) → AreSound first files → RoseIn rest files before now → RoseIn (first ++ rest) files before now
turn_rest_in [] rest files before now sound rose = rose
turn_rest_in (file ∷ more) rest files before now sound rose = inr (sound.0, turn_rest_in more rest files before now sound.1 rose)

-- a file of the first plan had its turn
pub turn_first : (told : Option Files) (first rest : List PlannedFile) (before now : Counts) → IfSome told (λ files. RoseIn first files before now)
    → IfSome told (λ files. RoseIn (first ++ rest) files before now)
turn_first None first rest before now turn = tt
turn_first (Some files) first rest before now turn = turn_first_in first rest files before now turn

-- and one of the second where the files of the first are what they must be
pub turn_rest : (told : Option Files) (first rest : List PlannedFile) (before now : Counts) → IfSome told (AreSound first) → IfSome told (λ files. RoseIn rest files before now)
    → IfSome told (λ files. RoseIn (first ++ rest) files before now)
turn_rest None first rest before now sound turn = tt
turn_rest (Some files) first rest before now sound turn = turn_rest_in first rest files before now sound turn

-- a file that is read alone has its turn at once
one_turn_in : (kind : FileKind) (name : Option (List ℕ)) (files : Files) (before now : Counts) → RoseAt (planned_if kind name) before now → RoseIn (planned_if kind name) files before now
one_turn_in kind None files before now rose = absurd rose
one_turn_in kind (Some name) files before now (inl rose) = inl rose
one_turn_in kind (Some name) files before now (inr rose) = absurd rose

pub one_turn : (told : Option Files) (kind : FileKind) (name : Option (List ℕ)) (before now : Counts) → RoseAt (planned_if kind name) before now
    → IfSome told (λ files. RoseIn (planned_if kind name) files before now)
one_turn None kind name before now rose = tt
one_turn (Some files) kind name before now rose = one_turn_in kind name files before now rose

-- ---- counts

pub counted_one : {T : Type 0} (result : Result T FilesFault) (kind : FileKind) (name : List ℕ) (before now : Counts) → Counted result (Rose (before name) (now name)) before now
    → Counted result (RoseAt (planned kind name) before now) before now
counted_one (Ok value) kind name before now counted = counted
counted_one (Err fault.Failed) kind name before now counted = inl counted
counted_one (Err fault.NoMemory) kind name before now counted = counted

-- a read of the first plan that failed is one of both
pub counted_first : (T U : Type 0) (why : FilesFault) (first rest : List PlannedFile) (before now : Counts) → Counted {T = T} (Err why) (RoseAt first before now) before now
    → Counted {T = U} (Err why) (RoseAt (first ++ rest) before now) before now
counted_first T U fault.Failed first rest before now counted = rose_first first rest before now counted
counted_first T U fault.NoMemory first rest before now counted = counted

pub counted_rest : {T : Type 0} (result : Result T FilesFault) (first rest : List PlannedFile) (before now : Counts) → Counted result (RoseAt rest before now) before now
    → Counted result (RoseAt (first ++ rest) before now) before now
counted_rest (Ok value) first rest before now counted = counted
counted_rest (Err fault.Failed) first rest before now counted = rose_rest first rest before now counted
counted_rest (Err fault.NoMemory) first rest before now counted = counted

-- ---- what was read is what it must be

pub calls_sound : (told : Option Files) (name : Option (List ℕ)) (txs : List Tx) → IfSome told (λ files. arrived_in name files ≡ Ok txs) → IfSome told (AreSound (planned_if CallsFile name))
calls_sound None name txs is = tt
calls_sound (Some files) None txs is = tt
calls_sound (Some files) (Some name) txs is = (subst (λ (found : Result (List Tx) ℕ). IsOk found) (sym is) refl, tt)

pub steps_sound : (told : Option Files) (name : Option (List ℕ)) (steps : List Step) → IfSome told (λ files. steps_in name files ≡ Ok steps) → IfSome told (AreSound (planned_if ScheduleFile name))
steps_sound None name steps is = tt
steps_sound (Some files) None steps is = tt
steps_sound (Some files) (Some name) steps is = (subst (λ (found : Result (List Step) ℕ). IsOk found) (sym is) refl, tt)

-- calls are sound exactly where none has a bad line
given_sound : (name : Option (List ℕ)) (files : Files) → IsOk (arrived_in name files) → AreSound (planned_if CallsFile name) files
given_sound None files ok = tt
given_sound (Some name) files ok = (ok, tt)

sound_given : (name : Option (List ℕ)) (files : Files) → AreSound (planned_if CallsFile name) files → IsOk (arrived_in name files)
sound_given None files sound = refl
sound_given (Some name) files sound = sound.0

pub both_sound : (first rest : List PlannedFile) (files : Files) → AreSound first files → AreSound rest files → AreSound (first ++ rest) files
both_sound [] rest files sound others = others
both_sound (file ∷ more) rest files sound others = (sound.0, both_sound more rest files sound.1 others)

pub first_sound : (first rest : List PlannedFile) (files : Files) → AreSound (first ++ rest) files → AreSound first files
first_sound [] rest files sound = tt
first_sound (file ∷ more) rest files sound = (sound.0, first_sound more rest files sound.1)

pub rest_sound : (first rest : List PlannedFile) (files : Files) → AreSound (first ++ rest) files → AreSound rest files
rest_sound [] rest files sound = sound
rest_sound (file ∷ more) rest files sound = rest_sound more rest files sound.1

split_ok : (node : ℕ) (found : Result (List Tx) ℕ) (others : Result (List (List Tx)) BadArrivals) → IsOk (arrived_before node found others) → IsOk found × IsOk others
split_ok node (Ok txs) (Ok others) ok = (refl, refl)
split_ok node (Ok txs) (Err bad) ok = absurd (cc)
split_ok node (Err line) others ok = absurd (cc)

joined_ok : (node : ℕ) (found : Result (List Tx) ℕ) (others : Result (List (List Tx)) BadArrivals) → IsOk found → IsOk others → IsOk (arrived_before node found others)
joined_ok node (Ok txs) (Ok others) one other = refl
joined_ok node (Ok txs) (Err bad) one other = absurd (cc)
joined_ok node (Err line) others one other = absurd (cc)

pub all_sound : (prefix : Option (List ℕ)) (node count : ℕ) (files : Files) → IsOk (all_arrived prefix node count files) → AreSound (arrivals_plan prefix node count) files
all_sound prefix node zero files ok = tt
all_sound prefix node (suc count) files ok =
    let both = split_ok node (arrived_in (file_at prefix node) files) (all_arrived prefix (node + 1) count files) ok in
    both_sound (planned_if CallsFile (file_at prefix node)) (arrivals_plan prefix (node + 1) count) files (given_sound (file_at prefix node) files both.0)
    (all_sound prefix (node + 1) count files both.1)

pub sound_all : (prefix : Option (List ℕ)) (node count : ℕ) (files : Files) → AreSound (arrivals_plan prefix node count) files → IsOk (all_arrived prefix node count files)
sound_all prefix node zero files sound = refl
sound_all prefix node (suc count) files sound =
    let here : AreSound (planned_if CallsFile (file_at prefix node)) files = first_sound (planned_if CallsFile (file_at prefix node)) (arrivals_plan prefix (node + 1) count) files sound in
    let others = sound_all prefix (node + 1) count files (rest_sound (planned_if CallsFile (file_at prefix node)) (arrivals_plan prefix (node + 1) count) files sound) in
    joined_ok node (arrived_in (file_at prefix node) files) (all_arrived prefix (node + 1) count files) (sound_given (file_at prefix node) files here) others

pub arrivals_sound : (told : Option Files) (prefix : Option (List ℕ)) (node count : ℕ) (txs : List (List Tx)) → IfSome told (λ files. all_arrived prefix node count files ≡ Ok txs)
    → IfSome told (AreSound (arrivals_plan prefix node count))
arrivals_sound None prefix node count txs is = tt
arrivals_sound (Some files) prefix node count txs is =
    all_sound prefix node count files (subst (λ (found : Result (List (List Tx)) BadArrivals). IsOk found) (sym is) refl)
