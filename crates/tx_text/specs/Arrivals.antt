-- Arrival files: `arrivals 1`, and then one transaction a line.
use Rattle.std.specs.Prelude.{◌≡◌, ◌≤◌, ℕ, List, ◌++◌, length, Result, Ok, Err, IsOk, codes}
use Rattle.std.specs.List.{AllByRecursion}
use Rattle.proc_syntax.specs.declared.call.Tx.{Tx}
use Rattle.tx_text.specs.Lines.{HasLine, tx_of, tx_text}
use Rattle.tx_text.specs.Listing.{Far, Form, listed, listing, longest_listing, most_items, walked}

abbrev pub arrivals_form : Form Tx
arrivals_form = record { header = codes "arrivals 1"; item = tx_of }

-- the transactions of a whole arrival file, or the number of the first line with a fault
abbrev pub arrivals : List ℕ → Result (List Tx) ℕ
arrivals bytes = listed arrivals_form bytes

-- an arrival file as it is written
abbrev pub arrivals_text : List Tx → List ℕ
arrivals_text txs = listing arrivals_form tx_text txs

-- how far the bytes of one go, or the number of the first line with a fault that no more bytes mend
abbrev pub arrived : List ℕ → Result (Far Tx) ℕ
arrived bytes = walked arrivals_form bytes

-- a file that is read is the text of its transactions, each byte of it
abbrev pub ArrivalsHaveOneText : Type 0
ArrivalsHaveOneText = (bytes : List ℕ) (txs : List Tx) → arrivals bytes ≡ Ok txs → bytes ≡ arrivals_text txs

-- and transactions are read back from it, at most 1,000,000
abbrev pub ArrivalsComeBack : Type 0
ArrivalsComeBack = (txs : List Tx) → length txs ≤ most_items → AllByRecursion HasLine txs → arrivals (arrivals_text txs) ≡ Ok txs

-- bytes that have no fault but that they end too early are at most so many
abbrev pub ArrivalsAreBounded : Type 0
ArrivalsAreBounded = (bytes : List ℕ) → IsOk (arrived bytes) → length bytes ≤ longest_listing

-- and a fault that no more bytes mend stays the fault
abbrev pub ArrivalFaultsLast : Type 0
ArrivalFaultsLast = (bytes more : List ℕ) (line : ℕ) → arrived bytes ≡ Err line → arrivals (bytes ++ more) ≡ Err line
