-- What the reader keeps, against what is meant.
use Rattle.std.specs.Prelude.{◌≡◌, ℕ, List, ◌∷◌, [], ◌++◌, Option, Some, None, Result, Ok, Err}
use Rattle.sha_lanes.specs.Absorbed.{Holds}
use Rattle.proc_syntax.specs.declared.call.Block.{Block}
use Rattle.proc_syntax.specs.declared.chain_fault.ChainFault.{ChainFault}
use Rattle.chain_file.specs.declared.form.FileKind.{FileKind}
use Rattle.chain_file.specs.declared.form.FileKind.TheVariants as file
use Rattle.chain_file.specs.declared.section.Section.{Section}
use Rattle.chain_file.specs.declared.section.Section.TheVariants as place
use Rattle.chain_file.specs.declared.hash.Hashes.{Hashes}
use Rattle.chain_file.specs.declared.standing.LinePoint.{LinePoint}
use Rattle.chain_file.specs.declared.standing.Standing.{Standing}
use Rattle.chain_file.specs.declared.advance.LineStop.{LineStop}
use Rattle.chain_file.specs.declared.advance.LineStop.TheVariants as stop
use Rattle.chain_file.specs.declared.reader.State.{State}
use Rattle.chain_file.specs.declared.reader.State.TheVariants as state
use Rattle.chain_file.specs.declared.reader.ReadBlocks.{ReadBlocks}
use Rattle.chain_file.specs.declared.reader.Fed.{Fed}
use Rattle.chain_file.specs.declared.reader.Reader.{Reader}
use Rattle.tx_text.specs.Parts.{line_text, parts_of}
use Rattle.chain_file.specs.Headers.{file_form}
use Rattle.chain_file.specs.Chain.{Position, Walked, bytes_in, chain, hash_digits, lasting, walked}

-- the kind of the file; before the header a chain, which it may become
abbrev pub kind_of : Section → FileKind
kind_of place.Start = file.Chain
kind_of (place.Between f count time) = f.kind
kind_of (place.Within f count time txs) = f.kind

-- of a chain the code knows the digits of the hash of the block before, and keeps the hash of the bytes of the block that has
-- begun; of a draft it knows nothing
abbrev pub Knows : FileKind → Hashes → List ℕ → List ℕ → Type 0
Knows file.Draft h digits bytes = Unit {0}
Knows file.Chain h digits bytes = (h.digits ≡ digits) × Holds h.block bytes

-- the code knows this before a line
abbrev pub Stands : LinePoint → Hashes → Position → Type 0
Stands s h at = (s.line ≡ at.line) × (s.place ≡ at.place) × (bytes_in at.place at.bytes ≡ at.bytes) × Knows (kind_of at.place) h at.digits at.bytes

abbrev pub StandsAt : Standing → Position → Type 0
StandsAt s at = Stands s.spot s.hashes at

-- the bytes that the hash holds after a line that leaves this, by whether it ended a block
abbrev pub hashed : Section → Option Block → List ℕ → List ℕ → List ℕ
hashed next (Some block) bytes line = []
hashed place.Start None bytes line = bytes
hashed (place.Between f count time) None bytes line = bytes
hashed (place.Within f count time txs) None bytes line = bytes ++ line_text line

-- and the digits of the hash of the block before
abbrev pub digits_behind : Option Block → List ℕ → List ℕ → List ℕ
digits_behind None digits bytes = digits
digits_behind (Some block) digits bytes = hash_digits bytes

-- so the hashes change with the line
abbrev pub IsHashed : Hashes → Hashes → Section → Option Block → List ℕ → Type 0
IsHashed old new next ended line =
    (digits bytes : List ℕ) → Knows (kind_of next) old digits bytes → Knows (kind_of next) new (digits_behind ended digits (bytes ++ line_text line)) (hashed next ended bytes line)

-- what the code says after a line, unless memory ran out
abbrev pub TakesLine : Result (LinePoint × Option Block) LineStop → Hashes → Result (Position × Option Block) ChainFault → Type 0
TakesLine (Ok next) h meant = (at : Position) × Stands next.0 h at × (meant ≡ Ok (at, next.1))
TakesLine (Err stop.NoMemory) h meant = Unit {0}
TakesLine (Err (stop.Fault found)) h meant = meant ≡ Err found

-- what the code keeps after bytes
abbrev pub KeepsChain : State → Result (Position × List ℕ) ChainFault → Type 0
KeepsChain (state.Open s held) meant = (at : Position) × StandsAt s at × (parts_of held ≡ held ∷ []) × (meant ≡ Ok (at, held))
KeepsChain (state.Stopped found) meant = meant ≡ Err found

-- the reader was fed these bytes
pub record WasFed (reader : Reader) (bytes : List ℕ) : Type 0 where
  pub keeps : KeepsChain reader.state (walked bytes).1
  pub form : reader.form ≡ file_form bytes

-- the fault that the reader met
abbrev pub fault_met : State → Option ChainFault
fault_met (state.Open s held) = None
fault_met (state.Stopped found) = Some found

-- what was read, against what is meant
abbrev pub Reads : ReadBlocks → Walked → Type 0
Reads read meant = (read.blocks ≡ meant.0) × KeepsChain read.state meant.1

-- a piece after bytes gives the blocks that the bytes do not have without it, and the first fault, but that more bytes are wanting
abbrev pub Answers : List ℕ → List ℕ → Fed → Type 0
Answers bytes piece fed = ((chain (bytes ++ piece)).0 ≡ (chain bytes).0 ++ fed.blocks) × (fed.fault ≡ lasting (chain (bytes ++ piece)).1)

-- an end without a fault, or with this one
abbrev pub EndsAs : Result (Unit {0}) ChainFault → Option ChainFault → Type 0
EndsAs (Ok _) meant = meant ≡ None
EndsAs (Err found) meant = meant ≡ Some found
