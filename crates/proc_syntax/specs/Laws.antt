-- What holds of every run, of every application.
use Rattle.std.specs.Prelude.{◌≡◌, ℕ, ℤ, ◌≤◌, List, [], ◌∷◌, length, map, Option, Some, All, Contains, IfSome, slice_get}
use Rattle.std.specs.declared.cmp.Ordering.TheVariants.{Less}
use Rattle.std.specs.FinMap as finite
use Rattle.std.specs.List.{AllPairs}
use Rattle.rel_base.specs.declared.access.Read.{Read}
use Rattle.rel_base.specs.declared.access.Read.TheVariants.{Point}
use Rattle.rel_base.specs.declared.schema.TableDef.{TableDef}
use Rattle.rel_base.specs.declared.value.Value.{Value}
use Rattle.rel_base.specs.Access.{read_table}
use Rattle.rel_base.specs.Among.{ReadFitsIn, StandsIn, TablesFit, WriteFitsIn, rows_in}
use Rattle.rel_base.specs.Tables.{Tables, rows, ref_cmp, Finds, write_ref, set_entry, seen_at}
use Rattle.proc_syntax.specs.declared.call.Tx.{Tx}
use Rattle.proc_syntax.specs.declared.tree.App.{App}
use Rattle.proc_syntax.specs.Declaring.{tables_of}
use Rattle.rel_base.specs.OwnWrites.{Own, merged}
use Rattle.proc_syntax.specs.Run.{run}
use Rattle.proc_syntax.specs.Limits.{most_steps}

-- each read of a run is listed with its rows in the tables
abbrev pub ReadsAreRows : Type 0
ReadsAreRows = (app : App) (tx : Tx) (time : ℤ) (tables : Tables) → All (λ made. made.rows ≡ rows_in (tables_of app) made.read tables) (run app tx time tables).reads

-- two tables on which each read of a run has the same rows give the same run: the same reads, net writes and end
abbrev pub EqualRowsGiveEqualRuns : Type 0
EqualRowsGiveEqualRuns = (app : App) (tx : Tx) (time : ℤ) (tables other : Tables)
    → All (λ made. rows_in (tables_of app) made.read other ≡ rows_in (tables_of app) made.read tables) (run app tx time tables).reads
    → run app tx time other ≡ run app tx time tables

-- each read of a run fits the declaration of its table
abbrev pub ReadsFit : Type 0
ReadsFit = (app : App) (tx : Tx) (time : ℤ) (tables : Tables) → All (λ made. ReadFitsIn (tables_of app) made.read) (run app tx time tables).reads

-- a run has at most 100,000 reads
abbrev pub FewReads : Type 0
FewReads = (app : App) (tx : Tx) (time : ℤ) (tables : Tables) → length (run app tx time tables).reads ≤ most_steps

-- and at most 100,000 writes
abbrev pub FewWrites : Type 0
FewWrites = (app : App) (tx : Tx) (time : ℤ) (tables : Tables) → length (run app tx time tables).writes ≤ most_steps

-- on tables whose rows fit and stand under their keys, each write of a run fits the declaration of its table
abbrev pub WritesFit : Type 0
WritesFit = (app : App) (tx : Tx) (time : ℤ) (tables : Tables) → TablesFit (tables_of app) tables → All (WriteFitsIn (tables_of app)) (run app tx time tables).writes

-- the writes of a run stand in the order of their tables and keys, and no two have the same
abbrev pub WritesInOrder : Type 0
WritesInOrder = (app : App) (tx : Tx) (time : ℤ) (tables : Tables) → AllPairs (λ a b. ref_cmp (write_ref a) (write_ref b) ≡ Less) (run app tx time tables).writes

-- the row before of each write is the row of its key in the tables
abbrev pub WritesFind : Type 0
WritesFind = (app : App) (tx : Tx) (time : ℤ) (tables : Tables) → TablesFit (tables_of app) tables
    → All (λ write. Finds (finite.get tables (write_ref write)) write) (run app tx time tables).writes

-- the key of each write was read at its point
abbrev pub WritesAreRead : Type 0
WritesAreRead = (app : App) (tx : Tx) (time : ℤ) (tables : Tables)
    → All (λ write. Contains (map (λ made. made.read) (run app tx time tables).reads) (Point write.table write.key)) (run app tx time tables).writes

-- own writes put into tables, one after the other, each row at a place
abbrev pub laid : ℕ → ℕ → Tables → List ((ℕ × List Value) × Option (List Value)) → Tables
laid block pos tables [] = tables
laid block pos tables (own ∷ rest) = laid block pos (set_entry tables own.0 (seen_at block pos own.1)) rest

-- each row that a transaction left fits the declaration of its table, and stands under its key
abbrev pub OwnFit : List TableDef → Own → Type 0
OwnFit declared own = All (λ entry. IfSome entry.1 (StandsIn declared entry.0)) (finite.entries own)

-- the rows that a transaction sees at a read are those of the tables with its own writes put in, at whichever place
abbrev pub SeesItsWrites : Type 0
SeesItsWrites = (declared : List TableDef) (def : TableDef) (read : Read) (block pos : ℕ) (tables : Tables) (own : Own) → slice_get declared (read_table read) ≡ Some def
    → TablesFit declared tables → OwnFit declared own → merged def read own (rows def read tables) ≡ map (λ seen. seen.row) (rows def read (laid block pos tables (finite.entries own)))
