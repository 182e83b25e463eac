-- A read that covers each row of a table gets the table's rows.
use Rattle.std.proofs.Common.{Bool, List, Some, [], ap, false, map, refl, true, ◌&&◌, ◌==◌, ◌∙◌, ◌≡◌, ◌∷◌, ℕ}
use Rattle.std.specs.FinMap as finite
use Rattle.std.specs.List.{filter}
use Rattle.std.specs.Prelude.{cond, slice_get}
use Rattle.node_model.specs.Fold.{table_rows}
use Rattle.node_model.specs.declared.result.TableRows.{TableRows}
use Rattle.rel_base.specs.Access.{covers_row, read_table}
use Rattle.rel_base.specs.Among.{rows_by, rows_in}
use Rattle.rel_base.specs.Tables.{Tables, is_read}
use Rattle.rel_base.specs.declared.access.Read.{Read}
use Rattle.rel_base.specs.declared.access.Seen.{Seen}
use Rattle.rel_base.specs.declared.schema.TableDef.{TableDef}
use Rattle.rel_base.specs.declared.value.Value.{Value}

also_true : (a b : Bool) → b ≡ true → (a && b) ≡ a
also_true true b is = is
also_true false b is = refl

-- two tests that agree
filter_alike : {X : Type 0} (first second : X → Bool) → ((x : X) → first x ≡ second x) → (xs : List X) → filter first xs ≡ filter second xs
filter_alike first second alike [] = refl
filter_alike first second alike (x ∷ xs) =
    ap (λ b. cond b (x ∷ filter first xs) (filter first xs)) (alike x) ∙ ap (λ rest. cond (second x) (x ∷ rest) rest) (filter_alike first second alike xs)

map_twice : {X Y Z : Type 0} (f : Y → Z) (g : X → Y) (xs : List X) → map f (map g xs) ≡ map (λ x. f (g x)) xs
map_twice f g [] = refl
map_twice f g (x ∷ xs) = ap (λ rest. f (g x) ∷ rest) (map_twice f g xs)

pub whole_rows : (tables : List TableDef) (def : TableDef) (read : Read) (number : ℕ) (at_height : Tables) → slice_get tables number ≡ Some def → read_table read ≡ number
    → ((row : List Value) → covers_row def read row ≡ true) → map (λ (seen : Seen). seen.row) (rows_in tables read at_height) ≡ (table_rows at_height number).rows
whole_rows tables def read number at_height declared same covers =
    ap (λ found. map (λ (seen : Seen). seen.row) (rows_by found read at_height)) (ap (slice_get tables) same ∙ declared)
    ∙ map_twice (λ (seen : Seen). seen.row) (λ (entry : (ℕ × List Value) × Seen). entry.1) (filter (is_read def read) (finite.entries at_height))
    ∙ ap (map (λ (entry : (ℕ × List Value) × Seen). entry.1.row))
    (filter_alike (is_read def read) (λ entry. number == entry.0.0)
    (λ entry. also_true (read_table read == entry.0.0) (covers_row def read entry.1.row) (covers entry.1.row) ∙ ap (λ table. table == entry.0.0) same) (finite.entries at_height))

-- rows as those of the table of a number
abbrev pub as_table : ℕ → List (List Value) → TableRows
as_table number listed = record { table = number; rows = listed }
