-- A shelf that lets all bytes be read lets each file of a plan be read.
use Rattle.std.proofs.Common.{List, Option, [], ◌∷◌, ℕ}
use Rattle.std.specs.Bool.{⊤}
use Rattle.bcdb.specs.Plan.{AllowsFile, AllowsPlan, AppFile, BlocksFile, CallsFile, DigestsFile, FileKind, PlannedFile, ProofFile, ScheduleFile}
use Rattle.edge_traits.specs.Shelf.{Files}

file_may : (kind : FileKind) (told : Option Files) (name : List ℕ) → AllowsFile kind told (λ name at size. ⊤) name
file_may AppFile told name = λ at lt. tt
file_may CallsFile told name = λ at clear. tt
file_may ScheduleFile told name = λ at clear. tt
file_may BlocksFile told name = λ at clear. tt
file_may DigestsFile told name = λ at lt. tt
file_may ProofFile told name = λ at lt. tt

pub all_may : (plan : List PlannedFile) (told : Option Files) → AllowsPlan plan told (λ name at size. ⊤)
all_may [] told = tt
all_may (file ∷ rest) told = (file_may file.kind told file.name, λ sound. all_may rest told)
