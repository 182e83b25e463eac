-- Jobs by the ids of their transactions: the number of the newest job with each id, and for each job the number of the one before it with the same id.
use Rattle.block_work.specs.Marks.{value_of}
use Rattle.node_core.specs.declared.index.JobIndex.{JobIndex}
use Rattle.node_core.specs.declared.jobs.JobRow.{JobRow}
use Rattle.node_model.specs.Steps.{Shared}
use Rattle.proc_syntax.specs.declared.call.Tx.{Tx}
use Rattle.std.specs.Prelude.{All, Bool, IsTrue, List, None, Option, Some, [], false, is_some, length, map, suc, true, vec_capacity, vec_len, zero, ◌+◌, ◌++◌, ◌≡◌, ◌≤◌, ◌∷◌, ℕ}
use Rattle.std.specs.Str.{bytes_eq}

-- ---- by the definition

-- the ids of the transactions of some rows
abbrev pub ids_of : List JobRow → List (List ℕ)
ids_of rows = map (λ row. row.tx.value.id) rows

-- the ids of some transactions
abbrev pub tx_ids : List (Shared Tx) → List (List ℕ)
tx_ids txs = map (λ tx. tx.value.id) txs

-- a number among all but the first, or else 1 or 0 for the first
abbrev pub behind_first : Bool → ℕ → ℕ
behind_first first (suc n) = suc (suc n)
behind_first true zero = 1
behind_first false zero = 0

-- the number, from 1, of the last of some ids that is equal to one, or 0 where none is
abbrev pub newest : List ℕ → List (List ℕ) → ℕ
newest id [] = 0
newest id (first ∷ ids) = behind_first (bytes_eq id first) (newest id ids)

-- for each id after some others, the number of the last one before it that is equal to it, or 0
abbrev pub olders : List (List ℕ) → List (List ℕ) → List ℕ
olders front [] = []
olders front (id ∷ ids) = newest id front ∷ olders (front ++ id ∷ []) ids

-- ---- by an index

-- what an index holds for an id
abbrev pub number_at : JobIndex → List ℕ → Option ℕ
number_at index id = value_of index.newest id

abbrev pub or_zero : Option ℕ → ℕ
or_zero None = 0
or_zero (Some number) = number

-- the number that an index has for an id, or 0
abbrev pub newest_of : JobIndex → List ℕ → ℕ
newest_of index id = or_zero (number_at index id)

-- an id has an entry, so that a number can be noted without memory
abbrev pub HasEntry : JobIndex → List ℕ → Type 0
HasEntry index id = IsTrue (is_some (number_at index id))

-- an index is that of the jobs with these ids
pub record Indexes (index : JobIndex) (ids : List (List ℕ)) : Type 0 where
  pub newest : (id : List ℕ) → newest_of index id ≡ newest id ids
  pub older : index.older.items ≡ olders [] ids

-- there is room for jobs with these ids
pub record HasRoom (index : JobIndex) (ids : List (List ℕ)) : Type 0 where
  pub room : vec_len index.older + length ids ≤ vec_capacity index.older
  pub held : All (HasEntry index) ids

-- what holds an entry does so still
abbrev pub KeepsHeld : JobIndex → JobIndex → Type 0
KeepsHeld old new = (id : List ℕ) → HasEntry old id → HasEntry new id

-- an index is that of the same jobs
abbrev pub SameJobs : JobIndex → JobIndex → Type 0
SameJobs old new = (ids : List (List ℕ)) → Indexes old ids → Indexes new ids
