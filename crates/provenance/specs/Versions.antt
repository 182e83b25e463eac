-- The versions of rows in the results of blocks: who made each, and who ended it. A version is one of the history of committed writes,
-- with the ids of the two transactions.
-- (That a version has a creator and a deleter, and that queries of provenance see all committed versions, is of Nathan and others,
-- PVLDB 12(11), 2019.)
use Rattle.node_model.specs.declared.result.BlockResult.{BlockResult}
use Rattle.node_model.specs.declared.result.Told.{Told}
use Rattle.node_model.specs.declared.version.Version.{Version}
use Rattle.rel_base.specs.Tables.{Stamped, place_of, ref_cmp, write_ref}
use Rattle.rel_base.specs.declared.access.Place.{Place}
use Rattle.rel_base.specs.declared.schema.TableDef.{TableDef}
use Rattle.rel_base.specs.declared.value.Value.{Value}
use Rattle.row_sets.specs.Lifespans.{is_of_key, is_of_table, lifespans}
use Rattle.row_sets.specs.declared.versions.Lifespan.{Lifespan}
use Rattle.std.specs.FinMap as finite
use Rattle.std.specs.List.{filter, flat_map}
use Rattle.std.specs.Option.{option_and_then, option_map}
use Rattle.std.specs.Prelude.{All, IsSome, List, None, Option, Some, [], cond, length, map, nat_lt, slice_get, ◌-◌, ◌==◌, ℕ}

-- the committed writes of blocks, in their order, each with the number of its block
abbrev pub history_of : List BlockResult → List Stamped
history_of blocks = flat_map (λ block. map (λ placed. (block.number, placed)) block.writes) blocks

-- the item of a number, where the first is 1
abbrev pub item_of : {X : Type 0} → List X → ℕ → Option X
item_of items number = cond (number == 0) None (slice_get items (number - 1))

-- the transaction at a place
abbrev pub told_at : List BlockResult → Place → Option Told
told_at blocks place = option_and_then (λ block. item_of block.outcomes place.pos) (item_of blocks place.block)

abbrev pub id_of : Option Told → List ℕ
id_of None = []
id_of (Some told) = told.id

-- each write stands at the place of a transaction
abbrev pub AreTold : List BlockResult → Type 0
AreTold blocks = All (λ stamped. IsSome (told_at blocks (place_of stamped))) (history_of blocks)

-- a version of a table's row: the row, where and by whom it was made, and where and by whom it was ended
abbrev pub version_of : List BlockResult → ℕ → Lifespan → Version
version_of blocks table span = record {
  table = table;
  row = span.row;
  made = span.made;
  maker = id_of (told_at blocks span.made);
  ended = span.ended;
  ender = option_map (λ place. id_of (told_at blocks place)) span.ended;
}

-- the versions of the rows of a table, in the order of their writes
abbrev pub of_table : List BlockResult → ℕ → List Version
of_table blocks table = map (version_of blocks table) (lifespans (is_of_table table) (history_of blocks))

-- the versions of the row of a key
abbrev pub of_key : List BlockResult → ℕ × List Value → List Version
of_key blocks ref = map (version_of blocks ref.0) (lifespans (is_of_key ref.0 ref.1) (history_of blocks))

-- the tables and keys of writes, by table and then by key, each once
abbrev pub keys_of : List Stamped → List (ℕ × List Value)
keys_of history = finite.keys (finite.from_entries {R = ref_cmp} (map (λ stamped. (write_ref stamped.1.write, tt {0})) history))

-- all versions of the rows of declared tables, by table and then by key, and of one key in the order of its writes
abbrev pub all_versions : List TableDef → List BlockResult → List Version
all_versions tables blocks = flat_map (of_key blocks) (filter (λ ref. nat_lt ref.0 (length tables)) (keys_of (history_of blocks)))
