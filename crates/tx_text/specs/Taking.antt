-- What the lines of an arrival file give in code, against what is meant.
use Rattle.std.specs.Prelude.{◌≡◌, ℕ, List, Option, Some, None, Result, Ok, Err}
use Rattle.std.specs.Option.{option_to_list}
use Rattle.proc_syntax.specs.declared.call.Tx.{Tx}
use Rattle.tx_text.specs.declared.arrivals.ArrivalFault.{ArrivalFault}
use Rattle.tx_text.specs.declared.arrivals.ArrivalFault.TheVariants as fault
use Rattle.tx_text.specs.declared.arrivals.ReadArrivals.{ReadArrivals}
use Rattle.tx_text.specs.Listing.{Far}

-- the transaction that a line of this number gives, if it gives one, or its fault
abbrev pub GivesLine : Result (Option Tx) ArrivalFault → ℕ → Option (List Tx) → Type 0
GivesLine (Ok item) number meant = meant ≡ Some (option_to_list item)
GivesLine (Err fault.NoMemory) number meant = Unit {0}
GivesLine (Err (fault.Bad line)) number meant = (meant ≡ None) × (line ≡ number)

-- how far bytes go
abbrev pub far_of : ReadArrivals → Far Tx
far_of read = record { line = read.line; items = read.txs; rest = read.held }

-- how far lines go, or their first fault
abbrev pub GivesFar : Result ReadArrivals ArrivalFault → Result (Far Tx) ℕ → Type 0
GivesFar (Ok read) meant = meant ≡ Ok (far_of read)
GivesFar (Err fault.NoMemory) meant = Unit {0}
GivesFar (Err (fault.Bad line)) meant = meant ≡ Err line
