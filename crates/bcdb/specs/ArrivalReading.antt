-- An arrival file that is read piece by piece.
use Rattle.std.specs.Prelude.{Err, IfSome, List, None, Option, Some, length, take, ℕ, ◌+◌, ◌<◌, ◌≡◌, ◌≤◌}
use Rattle.std.specs.Result.{IsOk}
use Rattle.bcdb.specs.declared.arrivals.ArrivalPiece.TheVariants as step
use Rattle.bcdb.specs.declared.arrivals.ArrivalPiece.{ArrivalPiece}
use Rattle.edge_traits.specs.Shelf.{Files}
use Rattle.proc_syntax.specs.declared.call.Tx.{Tx}
use Rattle.tx_text.specs.Arrivals.{arrivals, arrived}
use Rattle.tx_text.specs.Feeding.{WasFed, so_far}
use Rattle.tx_text.specs.Listing.{longest_listing}
use Rattle.tx_text.specs.declared.arrival_reader.ArrivalReader.{ArrivalReader}

-- these bytes were read, with no fault yet: the transactions of their lines
pub record HasRead (bytes : List ℕ) (reader : ArrivalReader) (txs : List Tx) : Type 0 where
  pub follows : WasFed reader bytes
  pub clear : IsOk (arrived bytes)
  pub txs_are : so_far (arrived bytes) ≡ txs

-- or a line has a fault that no more bytes mend
abbrev pub TakesLines : List ℕ → ArrivalReader → List Tx → Option ℕ → Type 0
TakesLines bytes reader txs None = HasRead bytes reader txs
TakesLines bytes reader txs (Some line) = arrived bytes ≡ Err line

-- so many bytes of a file were read, with no fault yet; they are its prefix if the shelf tells its files
pub record IsRead (told : Option Files) (name : List ℕ) (count : ℕ) (reader : ArrivalReader) (txs : List Tx) : Type 0 where
  pub bytes : List ℕ
  pub size : length bytes ≡ count
  pub has : HasRead bytes reader txs
  pub front : IfSome told (λ files. bytes ≡ take count (files name))

-- the whole file was read
pub record IsWholeArrivals (told : Option Files) (name : List ℕ) (reader : ArrivalReader) (txs : List Tx) : Type 0 where
  pub bytes : List ℕ
  pub has : HasRead bytes reader txs
  pub whole : IfSome told (λ files. bytes ≡ files name)

-- what one more piece of a file comes to, where so many bytes were read before it
abbrev pub LeadsTo : ArrivalPiece → Option Files → List ℕ → ℕ → ArrivalReader → List Tx → Type 0
LeadsTo (step.More count) told name at reader txs = (0 < count) × (at + count ≤ longest_listing) × IsRead told name (at + count) reader txs
LeadsTo step.End told name at reader txs = IsWholeArrivals told name reader txs
LeadsTo (step.Stop line) told name at reader txs = IfSome told (λ files. arrivals (files name) ≡ Err line)
