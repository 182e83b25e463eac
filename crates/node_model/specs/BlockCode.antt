-- The code of a block's result in bytes, and the digest by which nodes compare a whole chain of results.
-- (SHA-256 is that of FIPS 180-4. That nodes compare digests of what their blocks wrote is of Nathan and others, PVLDB 12(11), 2019; the
-- code is this project's own.)
use Rattle.canon_code.specs.Codes.{be_code, counted, short_code}
use Rattle.canon_code.specs.Rows.{key_code}
use Rattle.canon_code.specs.Values.{int_code}
use Rattle.canon_code.specs.Writes.{write_code}
use Rattle.node_model.specs.Kinds.{danger_mark, fault_mark, kind_byte, kind_of}
use Rattle.node_model.specs.declared.danger.Danger.TheVariants as danger
use Rattle.node_model.specs.declared.danger.Danger.{Danger}
use Rattle.node_model.specs.declared.outcome.Clash.{Clash}
use Rattle.node_model.specs.declared.outcome.Late.{Late}
use Rattle.node_model.specs.declared.outcome.Outcome.TheVariants as outcome
use Rattle.node_model.specs.declared.outcome.Outcome.{Outcome}
use Rattle.node_model.specs.declared.result.BlockResult.{BlockResult}
use Rattle.node_model.specs.declared.result.Told.{Told}
use Rattle.proc_syntax.specs.declared.fault.Fault.TheVariants as fault
use Rattle.proc_syntax.specs.declared.fault.Fault.{Fault}
use Rattle.sha2.specs.Sha256.{sha256}
use Rattle.std.specs.Int.{w32, w64}
use Rattle.std.specs.Prelude.{List, [], ◌++◌, ◌∷◌, ℕ}

-- a position, a table or a count, in four bytes
abbrev pub small_code : ℕ → List ℕ
small_code n = be_code w32 n

-- a late read: its number in the run, and the place and the key of the write
abbrev pub late_code : Late → List ℕ
late_code late = small_code late.read ++ be_code w64 late.place.block ++ small_code late.place.pos ++ small_code late.table ++ key_code late.key

-- the text of a statement `fail`, which no other fault has
abbrev pub fault_details : Fault → List ℕ
fault_details fault.Overflow = []
fault_details fault.ZeroDivide = []
fault_details fault.DuplicateKey = []
fault_details fault.NoRow = []
fault_details fault.TextTooLong = []
fault_details fault.Steps = []
fault_details (fault.Failed text) = short_code text

-- why a run ended without its writes: its byte, and its text
abbrev pub fault_code : Fault → List ℕ
fault_code why = (fault_mark why).1 ∷ fault_details why

-- a key that was written before in the block, and the position that wrote it
abbrev pub clash_code : Clash → List ℕ
clash_code clash = small_code clash.with ++ small_code clash.table ++ key_code clash.key

-- the positions of a danger in the order in which they are found, of a cycle after their count
abbrev pub danger_details : Danger → List ℕ
danger_details (danger.One z x) = small_code z ++ small_code x
danger_details (danger.Two y z) = small_code y ++ small_code z
danger_details (danger.Cycle path) = counted small_code small_code path

-- a danger: the byte of its form, and its positions
abbrev pub danger_code : Danger → List ℕ
danger_code found = (danger_mark found).1 ∷ danger_details found

-- what an outcome names
abbrev pub outcome_details : Outcome → List ℕ
outcome_details outcome.Committed = []
outcome_details outcome.DuplicateId = []
outcome_details outcome.FutureHeight = []
outcome_details outcome.UnknownProcedure = []
outcome_details outcome.BadArguments = []
outcome_details (outcome.Late late) = late_code late
outcome_details (outcome.Fault why) = fault_code why
outcome_details (outcome.WriteConflict clash) = clash_code clash
outcome_details (outcome.Danger found) = danger_code found

-- an outcome: the byte of its kind, and what it names
abbrev pub outcome_code : Outcome → List ℕ
outcome_code outcome = kind_byte (kind_of outcome) ∷ outcome_details outcome

-- a transaction: its id after its length, and its outcome
abbrev pub told_code : Told → List ℕ
told_code told = short_code told.id ++ outcome_code told.outcome

-- the result of a block: its number, its time in 8 bytes, its outcomes, its serial order and its writes, each list after its count
abbrev pub block_code : BlockResult → List ℕ
block_code block =
    be_code w64 block.number ++ int_code block.time ++ counted small_code told_code block.outcomes ++ counted small_code small_code block.order
    ++ counted small_code write_code block.writes

-- the digest of a block's result, where the block before has a digest
abbrev pub digest_of : List ℕ → BlockResult → List ℕ
digest_of previous block = sha256 (previous ++ block_code block)
