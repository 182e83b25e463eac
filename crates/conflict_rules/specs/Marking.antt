-- Marks of what the committed transactions of a block read and wrote, turned by place: a place has a bit for each transaction, so that
-- those that have a mark there are found together. (A bit-sliced signature file: Faloutsos and Christodoulakis, ACM TOIS 2(4), 1984.)
use Rattle.conflict_rules.specs.Hashing.{key_place, value_hash}
use Rattle.conflict_rules.specs.declared.directory.Directory.{Directory}
use Rattle.node_model.specs.declared.result.Committed.{Committed}
use Rattle.rel_base.specs.declared.access.Made.{Made}
use Rattle.rel_base.specs.declared.access.Read.TheVariants.{Point, Span}
use Rattle.rel_base.specs.declared.access.Read.{Read}
use Rattle.rel_base.specs.declared.access.Write.{Write}
use Rattle.rel_base.specs.Row.{value_at}
use Rattle.rel_base.specs.Value.{value_eq}
use Rattle.rel_base.specs.declared.value.Value.{Value}
use Rattle.rw_graph.specs.Held.{holds}
use Rattle.rw_graph.specs.Sets.{is_one}
use Rattle.rw_graph.specs.declared.bits.Bits.{Bits}
use Rattle.std.specs.Bool.{nat_eq}
use Rattle.std.specs.List.{list_any}
use Rattle.std.specs.Prelude.{Bool, List, None, Option, Some, cond, false, length, slice_get, slice_index, true, vec_len, ◌%◌, ◌*◌, ◌+◌, ◌/◌, ◌<◌, ◌||◌, ◌≡◌, ◌≤◌, ◌⊎◌, ℕ}
use Rattle.proc_syntax.specs.Limits.{most_transactions}

-- ---- places

-- the place of a table, after those of all keys
abbrev pub table_place : ℕ → ℕ
table_place table = 1024 + table % 64

-- the place of a write, whatever it did
abbrev pub write_place : Write → ℕ
write_place write = key_place write.table write.key

-- the place of a value, after those of all tables
abbrev pub value_place : ℕ → Value → ℕ
value_place table value = 1088 + value_hash table value

-- the whole of a point has the place of its key, and that of a span, which may hit a write of any key, that of its table
abbrev pub whole_place : Read → ℕ
whole_place (Point table key) = key_place table key
whole_place (Span table column low high) = table_place table

-- the place of the value between two ends that are the same
abbrev pub one_place : ℕ → Option Value → Option Value → Option ℕ
one_place table None high = None
one_place table (Some low) None = None
one_place table (Some low) (Some high) = cond (value_eq low high) (Some (value_place table low)) None

-- a column is the one of which values are marked, if there is one
abbrev pub is_column : Option ℕ → ℕ → Bool
is_column None column = false
is_column (Some marked) column = nat_eq marked column

-- the place of the one value in the marked column that a read names
abbrev pub named_place : Option ℕ → Read → Option ℕ
named_place marked (Point table key) = None
named_place marked (Span table column low high) = cond (is_column marked column) (one_place table low high) None

abbrev pub place_or : Option ℕ → ℕ → ℕ
place_or None place = place
place_or (Some named) place = named

-- a read has the place of the value that it names, and else that of its whole
abbrev pub read_place : Option ℕ → Read → ℕ
read_place marked read = place_or (named_place marked read) (whole_place read)

-- a write is found by its key and by its table
abbrev pub is_place_of : Write → ℕ → Bool
is_place_of write place = nat_eq place (write_place write) || nat_eq place (table_place write.table)

-- and by the values of its rows before and after in a column
abbrev pub is_cell_place : ℕ → ℕ → Option (List Value) → ℕ → Bool
is_cell_place table column None place = false
is_cell_place table column (Some row) place = nat_eq place (value_place table (value_at row column))

abbrev pub is_value_place : ℕ → Write → ℕ → Bool
is_value_place column write place = is_cell_place write.table column write.before place || is_cell_place write.table column write.after place

abbrev pub has_write_at : List Write → ℕ → Bool
has_write_at writes place = list_any (λ write. is_place_of write place) writes

abbrev pub has_value_at : ℕ → List Write → ℕ → Bool
has_value_at column writes place = list_any (λ write. is_value_place column write place) writes

-- before a column is marked, any place may be that of a value
abbrev pub has_value_in : Option ℕ → List Write → ℕ → Bool
has_value_in None writes place = true
has_value_in (Some column) writes place = has_value_at column writes place

abbrev pub has_read_at : Option ℕ → List Made → ℕ → Bool
has_read_at marked reads place = list_any (λ made. nat_eq place (read_place marked made.read)) reads

-- ---- marks

-- whether a place is marked for the transaction of a number, from 0: each 64 transactions have a row of a word for each place
abbrev pub is_marked : List ℕ → ℕ → ℕ → Bool
is_marked words place number = is_one (slice_index words (1345 * (number / 64) + place)) (number % 64)

-- a place is marked, or the last one, which tells that values are not
abbrev pub is_value_marked : List ℕ → ℕ → ℕ → Bool
is_value_marked words place number = is_marked words place number || is_marked words 1344 number

-- ---- what a directory has

-- each transaction has marks at the places that it has
abbrev pub HasMarks : (Committed → ℕ → Bool) → (ℕ → ℕ → Bool) → List Committed → Type 0
HasMarks has marked committed = (number place : ℕ) (done : Committed)
    → slice_get committed number ≡ Some done → has done place ≡ true → marked place number ≡ true

-- the reads of a transaction have marks, by the column that was marked when it was added: none, or the one that is now
abbrev pub HasReadMarks : Option ℕ → List ℕ → ℕ → List Made → Type 0
HasReadMarks column words number reads = (place : ℕ) → has_read_at column reads place ≡ true → is_marked words place number ≡ true

abbrev pub AreReadsMarked : Option ℕ → List ℕ → List Committed → Type 0
AreReadsMarked column words committed = (number : ℕ) (done : Committed)
    → slice_get committed number ≡ Some done → HasReadMarks None words number done.reads ⊎ HasReadMarks column words number done.reads

-- a directory has marks for all writes, for their values and for all reads of at most 1,024 committed transactions
pub record IsDirectoryOf (committed : List Committed) (directory : Directory) : Type 0 where
  pub few : length committed ≤ most_transactions
  pub writes : HasMarks (λ done. has_write_at done.writes) (is_marked directory.writers.items) committed
  pub values : HasMarks (λ done. has_value_in directory.marked done.writes) (is_value_marked directory.writers.items) committed
  pub reads : AreReadsMarked directory.marked directory.readers.items committed

-- there is room for the transaction of a number, where it is one of the first 1,024
pub record HasRoomFor (number : ℕ) (directory : Directory) : Type 0 where
  pub writers : number < most_transactions → 1345 * (number / 64 + 1) ≤ vec_len directory.writers
  pub readers : number < most_transactions → 1345 * (number / 64 + 1) ≤ vec_len directory.readers

-- ---- what is looked at

-- for a read, the place that it has; for a value that it names, also those whose values are not marked
abbrev pub is_place_found : List ℕ → ℕ → Option ℕ → ℕ → Bool
is_place_found words whole None number = is_marked words whole number
is_place_found words whole (Some place) number = is_value_marked words place number

abbrev pub is_read_found : Option ℕ → List ℕ → Read → ℕ → Bool
is_read_found marked words read number = is_place_found words (whole_place read) (named_place marked read) number

-- for a write, its key and its table, and its values in the marked column
abbrev pub is_touched : List ℕ → Write → ℕ → Bool
is_touched words write number = is_marked words (table_place write.table) number || is_marked words (write_place write) number

abbrev pub is_cell_found : List ℕ → ℕ → ℕ → Option (List Value) → ℕ → Bool
is_cell_found words table column None number = false
is_cell_found words table column (Some row) number = is_marked words (value_place table (value_at row column)) number

abbrev pub is_value_found : Option ℕ → List ℕ → Write → ℕ → Bool
is_value_found None words write number = false
is_value_found (Some column) words write number =
    is_cell_found words write.table column write.before number || is_cell_found words write.table column write.after number

abbrev pub is_write_found : Option ℕ → List ℕ → Write → ℕ → Bool
is_write_found marked words write number = is_value_found marked words write number || is_touched words write number

-- ---- transactions that were found, each number as the position after it

-- none from a number on, before another, was found
abbrev pub NoneFound : Bits → ℕ → ℕ → Type 0
NoneFound found from upto = (number : ℕ) → from ≤ number → number < upto → holds found (number + 1) ≡ false

-- all that were not found are idle
abbrev pub OnlyFound : Bits → List Committed → (Committed → Type 0) → Type 0
OnlyFound found committed idle = (number : ℕ) (done : Committed) → slice_get committed number ≡ Some done → holds found (number + 1) ≡ false → idle done
