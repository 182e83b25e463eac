-- What a reader of arrival files keeps and answers, against what is meant.
use Rattle.std.specs.Prelude.{◌≡◌, ℕ, List, [], ◌++◌, length, true, false, Option, Some, None, Result, Ok, Err, IsOk}
use Rattle.proc_syntax.specs.declared.call.Tx.{Tx}
use Rattle.tx_text.specs.declared.arrivals.ArrivalFault.{ArrivalFault}
use Rattle.tx_text.specs.declared.arrivals.ArrivalFault.TheVariants as fault
use Rattle.tx_text.specs.declared.arrival_reader.State.{State}
use Rattle.tx_text.specs.declared.arrival_reader.State.TheVariants as state
use Rattle.tx_text.specs.declared.arrival_reader.ArrivalReader.{ArrivalReader}
use Rattle.tx_text.specs.Parts.{is_long}
use Rattle.tx_text.specs.Listing.{Far}
use Rattle.tx_text.specs.Arrivals.{arrived}

-- a value, or a fault with its line, exactly where that is meant, unless memory ran out
abbrev pub Gives : {A : Type 0} → Result A ArrivalFault → Result A ℕ → Type 0
Gives (Ok found) meant = meant ≡ Ok found
Gives (Err fault.NoMemory) meant = Unit {0}
Gives (Err (fault.Bad line)) meant = meant ≡ Err line

-- how far bytes go, where the line in which they end is kept apart
abbrev pub GivesPiece : Result (List Tx) ArrivalFault → ℕ → List ℕ → Result (Far Tx) ℕ → Type 0
GivesPiece (Ok txs) line held meant = meant ≡ Ok (record { line = line; items = txs; rest = held })
GivesPiece (Err fault.NoMemory) line held meant = Unit {0}
GivesPiece (Err (fault.Bad wrong)) line held meant = meant ≡ Err wrong

-- a line goes on with a piece in which none ends, unless it is too long
abbrev pub HoldsOn : Result (Unit {0}) ArrivalFault → ℕ → List ℕ → List ℕ → List ℕ → Type 0
HoldsOn (Ok _) line old new piece = (new ≡ old ++ piece) × (is_long (old ++ piece) ≡ false)
HoldsOn (Err fault.NoMemory) line old new piece = Unit {0}
HoldsOn (Err (fault.Bad wrong)) line old new piece = (wrong ≡ line) × (is_long (old ++ piece) ≡ true)

-- what the reader keeps after bytes: how far they go, but for their transactions; or their fault
abbrev pub KeepsArrivals : State → Result (Far Tx) ℕ → Type 0
KeepsArrivals (state.Open line held) meant = (txs : List Tx) × (meant ≡ Ok (record { line = line; items = txs; rest = held }))
KeepsArrivals (state.Stopped line) meant = meant ≡ Err line

-- the reader was fed these bytes
abbrev pub WasFed : ArrivalReader → List ℕ → Type 0
WasFed reader bytes = KeepsArrivals reader.state (arrived bytes)

-- the line of the fault that was met
abbrev pub fault_in : State → Option ℕ
fault_in (state.Open line held) = None
fault_in (state.Stopped line) = Some line

-- the same of a reader
abbrev pub fault_met : ArrivalReader → Option ℕ
fault_met reader = fault_in reader.state

-- the transactions so far
abbrev pub so_far : Result (Far Tx) ℕ → List Tx
so_far (Err line) = []
so_far (Ok far) = far.items

-- a piece after bytes gives the transactions of the lines that end in it, where no line has a fault yet, and else the first that has
abbrev pub Answers : List ℕ → List ℕ → Result (List Tx) ArrivalFault → Type 0
Answers bytes piece (Ok txs) = IsOk (arrived (bytes ++ piece)) × (so_far (arrived (bytes ++ piece)) ≡ so_far (arrived bytes) ++ txs)
Answers bytes piece (Err fault.NoMemory) = Unit {0}
Answers bytes piece (Err (fault.Bad line)) = arrived (bytes ++ piece) ≡ Err line

-- and unless memory ran out the reader then follows both
abbrev pub FollowsOn : ArrivalReader → List ℕ → Result (List Tx) ArrivalFault → Type 0
FollowsOn reader bytes (Ok txs) = WasFed reader bytes
FollowsOn reader bytes (Err fault.NoMemory) = Unit {0}
FollowsOn reader bytes (Err (fault.Bad line)) = WasFed reader bytes

-- an end without a fault, or with one in this line
abbrev pub EndsAs : Result (Unit {0}) ℕ → Result (List Tx) ℕ → Type 0
EndsAs (Ok _) meant = IsOk meant
EndsAs (Err line) meant = meant ≡ Err line

-- how many bytes stand after the last newline, where no fault was met before
abbrev pub open_length : Result (Far Tx) ℕ → ℕ
open_length (Err line) = 0
open_length (Ok far) = length far.rest
