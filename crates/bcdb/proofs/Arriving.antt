-- Pieces of an arrival file, one after another: what was read stays a prefix of the file, and a fault that was met is the file's.
use Rattle.std.proofs.Common.{Bool, IfOk, IfSome, List, None, Option, Some, [], ap, arith, cond, false, length, refl, subst, sym, take, true, ◌&&◌, ◌+◌, ◌++◌, ◌<◌, ◌==◌, ◌∙◌, ◌≡◌, ◌≤◌, ℕ}
use Rattle.std.specs.Prelude.{Err, Ok, Result, nat_lt}
use Rattle.std.specs.Result.{IsOk}
use Rattle.bcdb.proofs.Taken.{at_size, end_by, file_by, front_by, joined_size}
use Rattle.bcdb.specs.ArrivalReading.{HasRead, IsRead, IsWholeArrivals}
use Rattle.edge_traits.specs.Shelf.{Files, IsPiece}
use Rattle.order_queue.proofs.Submitted.{files_are_submissions}
use Rattle.order_queue.specs.Orders.{IsSubmission}
use Rattle.proc_syntax.specs.declared.call.Tx.{Tx}
use Rattle.tx_text.specs.Arrivals.{ArrivalFaultsLast, ArrivalsAreBounded, arrivals, arrived}
use Rattle.tx_text.specs.Feeding.{so_far}
use Rattle.tx_text.specs.Listing.{Far, longest_listing, whole}
use Rattle.tx_text.specs.declared.arrival_reader.ArrivalReader.{ArrivalReader}

-- what was read so far has no fault, so the file may be read from there on
pub may_go_on : (told : Option Files) (name : List ℕ) (at : ℕ) (reader : ArrivalReader) (txs : List Tx) → IsRead told name at reader txs → IfSome told (λ files. IsOk (arrived (take at (files name))))
may_go_on None name at reader txs read = tt
may_go_on (Some files) name at reader txs read = subst (λ bytes. IsOk (arrived bytes)) read.front read.has.clear

module _ (told : Option Files) (name buffer : List ℕ) (at count : ℕ) (old : ArrivalReader) (before : List Tx) (read : IsRead told name at old before) (le : count ≤ length buffer)
    (piece : IfSome told (λ files. IsPiece (files name) at count buffer)) where
  abbrev both : List ℕ
  both = read.bytes ++ take count buffer

  size : length both ≡ at + count
  size = joined_size read.bytes buffer at count read.size le

  front : IfSome told (λ files. both ≡ take (length both) (files name))
  front = front_by told name read.bytes buffer at count read.size le piece read.front

  -- the reading goes on after a piece without a fault
  pub goes_on : (new : ArrivalReader) (txs : List Tx) → HasRead both new txs → IsRead told name (at + count) new txs
  goes_on new txs has = record { bytes = both; size = size; has = has; front = at_size told name both (at + count) size front }

  -- and has not gone past the longest file
  pub within : ArrivalsAreBounded → (new : ArrivalReader) (txs : List Tx) → HasRead both new txs → at + count ≤ longest_listing
  within bounded new txs has = subst (λ n. n ≤ longest_listing) size (bounded both has.clear)

  -- a fault that was met is the file's
  pub stops : ArrivalFaultsLast → (line : ℕ) → arrived both ≡ Err line → IfSome told (λ files. arrivals (files name) ≡ Err line)
  stops last line is = file_by told name both (λ bytes. arrivals bytes ≡ Err line) front (λ more. last both more line is)

-- where no byte comes, the file was read whole
pub ends : (told : Option Files) (name buffer : List ℕ) (at count : ℕ) (reader : ArrivalReader) (txs : List Tx) → (read : IsRead told name at reader txs) → 0 < length buffer → count ≡ 0
    → IfSome told (λ files. IsPiece (files name) at count buffer) → IsWholeArrivals told name reader txs
ends told name buffer at count reader txs read room none piece =
    record { bytes = read.bytes; has = read.has; whole = end_by told name read.bytes buffer at count room none piece read.front }

-- a whole file without a fault has the transactions that were read
whole_read : (far : Result (Far Tx) ℕ) → IsOk (whole far) → whole far ≡ Ok (so_far far)
whole_read (Err line) ok = absurd (not_ok ok)
  where
    not_ok : false ≡ true → ⊥
    not_ok is = cc
whole_read (Ok far) ok = by (nat_lt 1 far.line && (length far.rest == 0)) ok
  where
    by : (b : Bool) → IsOk (cond {A = Result (List Tx) ℕ} b (Ok far.items) (Err far.line)) → cond {A = Result (List Tx) ℕ} b (Ok far.items) (Err far.line) ≡ Ok far.items
    by true is = refl
    by false is = absurd (not_ok is)
      where
        not_ok : false ≡ true → ⊥
        not_ok is = cc

pub read_whole : (bytes : List ℕ) (reader : ArrivalReader) (txs : List Tx) → HasRead bytes reader txs → IsOk (arrivals bytes) → arrivals bytes ≡ Ok txs
read_whole bytes reader txs has ok = whole_read (arrived bytes) ok ∙ ap (λ read. Ok read) has.txs_are

-- so the file is what was read
pub told_whole : (told : Option Files) (name : List ℕ) (reader : ArrivalReader) (txs : List Tx) (result : Result (List Tx) ℕ) → (read : IsWholeArrivals told name reader txs)
    → ((bytes : List ℕ) → HasRead bytes reader txs → arrivals bytes ≡ result) → IfSome told (λ files. arrivals (files name) ≡ result)
told_whole None name reader txs result read gives = tt
told_whole (Some files) name reader txs result read gives = ap arrivals (sym read.whole) ∙ gives read.bytes read.has

-- and a client may submit it, also nothing
pub none_submitted : IsSubmission []
none_submitted = record { few = omega arith; lines = tt }

pub submits : (told : Option Files) (name : List ℕ) (reader : ArrivalReader) (txs : List Tx) (result : Result (List Tx) ℕ) → (read : IsWholeArrivals told name reader txs)
    → ((bytes : List ℕ) → HasRead bytes reader txs → arrivals bytes ≡ result) → IfOk result IsSubmission
submits told name reader txs (Ok submitted) read gives = files_are_submissions read.bytes submitted (gives read.bytes read.has)
submits told name reader txs (Err line) read gives = tt
