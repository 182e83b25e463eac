-- The answer to a query: the versions that it selects, or why there is none.
use Rattle.node_model.specs.declared.result.BlockResult.{BlockResult}
use Rattle.node_model.specs.declared.result.Told.{Told}
use Rattle.node_model.specs.declared.version.Version.{Version}
use Rattle.node_model.specs.Decide.{is_committed}
use Rattle.proc_syntax.specs.Values.{have_kinds}
use Rattle.provenance.specs.Versions.{all_versions, of_key, of_table, told_at}
use Rattle.provenance.specs.declared.query.Query.TheVariants.{Between, History, Written}
use Rattle.provenance.specs.declared.query.Query.{Query}
use Rattle.provenance.specs.declared.query.QueryFault.TheVariants as fault
use Rattle.provenance.specs.declared.query.QueryFault.{QueryFault}
use Rattle.rel_base.specs.Schema.{kind_at}
use Rattle.rel_base.specs.declared.access.Place.{Place}
use Rattle.rel_base.specs.declared.schema.TableDef.{TableDef}
use Rattle.rel_base.specs.declared.value.Value.{Value}
use Rattle.std.specs.List.{filter, list_any, position_from, range_with_len}
use Rattle.std.specs.Prelude.{Bool, Err, List, None, Ok, Option, Result, Some, cond, false, length, map, nat_le, nat_lt, slice_get, true, ◌&&◌, ◌+◌, ◌-◌, ◌||◌, ℕ}
use Rattle.std.specs.Str.{bytes_eq}

-- ---- what a version has to do with heights

-- what was ended at a place, if anywhere, still lives after the block of a height
abbrev pub lives_at : ℕ → Option Place → Bool
lives_at height None = true
lives_at height (Some ended) = nat_lt height ended.block

-- a version that was made and ended so is visible at a height where it was made up to that height and still lives
abbrev pub is_visible : Place → Option Place → ℕ → Bool
is_visible made ended height = nat_le made.block height && lives_at height ended

-- it was visible at some height from one to another, both included
abbrev pub was_visible : ℕ → ℕ → Place → Option Place → Bool
was_visible from to made ended = list_any (is_visible made ended) (range_with_len from (to + 1 - from))

-- ---- what a version has to do with transactions

-- a transaction committed under an id
abbrev pub committed_as : List ℕ → Option Told → Bool
committed_as id None = false
committed_as id (Some told) = bytes_eq told.id id && is_committed told.outcome

-- the transaction at a place, if there is one, committed under an id
abbrev pub is_place_of : List BlockResult → List ℕ → Option Place → Bool
is_place_of blocks id None = false
is_place_of blocks id (Some place) = committed_as id (told_at blocks place)

-- the transaction that committed under an id made a version that was made and ended so, or ended it
abbrev pub is_written_by : List BlockResult → List ℕ → Place → Option Place → Bool
is_written_by blocks id made ended = is_place_of blocks id (Some made) || is_place_of blocks id ended

-- ---- answers

-- the number of the table of a name
abbrev pub table_named : List TableDef → List ℕ → Option ℕ
table_named tables name = position_from (λ def. bytes_eq def.name name) 0 tables

abbrev pub of_named : Option ℕ → (ℕ → Result (List Version) QueryFault) → Result (List Version) QueryFault
of_named None answer = Err fault.UnknownTable
of_named (Some table) answer = answer table

-- a key has one value of the declared kind for each key column
abbrev pub takes_key : Option TableDef → List Value → Bool
takes_key None key = false
takes_key (Some def) key = have_kinds (map (kind_at def) def.key) key

-- the versions of the key, in the order in which they were made
abbrev pub of_history : List TableDef → List BlockResult → List Value → ℕ → Result (List Version) QueryFault
of_history tables blocks key table = cond (takes_key (slice_get tables table) key) (Ok (of_key blocks (table, key))) (Err fault.BadKey)

-- the versions of the table that were visible in the range, by where they were made and then by key
abbrev pub of_range : List BlockResult → ℕ → ℕ → ℕ → Result (List Version) QueryFault
of_range blocks from to table =
    cond (nat_le from to && nat_le to (length blocks)) (Ok (filter (λ version. was_visible from to version.made version.ended) (of_table blocks table))) (Err fault.BadRange)

-- the versions that the transaction made or ended, by table, key and where they were made
abbrev pub of_id : List TableDef → List BlockResult → List ℕ → List Version
of_id tables blocks id = filter (λ version. is_written_by blocks id version.made version.ended) (all_versions tables blocks)

-- the versions that a query selects among those of declared tables in the results of blocks
abbrev pub answer : List TableDef → List BlockResult → Query → Result (List Version) QueryFault
answer tables blocks (History name key) = of_named (table_named tables name) (of_history tables blocks key)
answer tables blocks (Between name from to) = of_named (table_named tables name) (of_range blocks from to)
answer tables blocks (Written id) = Ok (of_id tables blocks id)
