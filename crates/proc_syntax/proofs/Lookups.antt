-- Tables that are found by their names, and the reads that are made of them.
use Rattle.std.proofs.Common.{◌≡◌, ℕ, refl, List, true, false, cond, map, Option, Some, None, IfSome, ◌&&◌, ◌==◌}
use Rattle.std.specs.Prelude.{slice_get}
use Rattle.std.specs.List.{position_from, list_any}
use Rattle.std.specs.Option.{option_and_then, option_map}
use Rattle.std.specs.Str.{bytes_eq}
use Rattle.rel_base.specs.declared.access.Read.TheVariants.{Point, Span}
use Rattle.rel_base.specs.declared.schema.TableDef.{TableDef}
use Rattle.rel_base.specs.declared.value.Value.{Value}
use Rattle.rel_base.specs.Access.{read_table}
use Rattle.rel_base.specs.Schema.{kind_at, span_columns}
use Rattle.proc_syntax.specs.Meaning.{point_of, span_of, end_has}
use Rattle.proc_syntax.specs.Scope.{table_named}
use Rattle.proc_syntax.specs.Values.{have_kinds}

-- a table that is found stands at its number
pub declared_named : (declared : List TableDef) (name : List ℕ) → IfSome (table_named declared name) (λ named. slice_get declared named.0 ≡ Some named.1)
declared_named declared name = at_number (position_from (λ def. bytes_eq def.name name) 0 declared)
  where
    at_def : (number : ℕ) (found : Option TableDef) → slice_get declared number ≡ found → IfSome {T = ℕ × TableDef} (option_map (λ def. (number, def)) found) (λ named. slice_get declared named.0 ≡ Some named.1)
    at_def number None e = tt
    at_def number (Some def) e = e

    at_number : (found : Option ℕ) → IfSome {T = ℕ × TableDef} (option_and_then (λ number. option_map (λ def. (number, def)) (slice_get declared number)) found) (λ named. slice_get declared named.0 ≡ Some named.1)
    at_number None = tt
    at_number (Some number) = at_def number (slice_get declared number) refl

pub anything : {A : Type 0} (o : Option A) → IfSome o (λ x. Unit {0})
anything None = tt
anything (Some x) = tt

pub point_table : (def : TableDef) (table : ℕ) (key : List Value) → IfSome (point_of def table key) (λ read. read_table read ≡ table)
point_table def table key =
    elim (have_kinds (map (kind_at def) def.key) key) as (λ b. IfSome (cond b (Some (Point table key)) None) (λ read. read_table read ≡ table)) [ true ↦ refl | false ↦ tt ]

pub span_table : (def : TableDef) (table : ℕ) (column : Option ℕ) (low high : Option Value) → IfSome (span_of def table column low high) (λ read. read_table read ≡ table)
span_table def table None low high = tt
span_table def table (Some column) low high =
    elim (list_any (λ c. c == column) (span_columns def) && (end_has (kind_at def column) low && end_has (kind_at def column) high))
    as (λ b. IfSome (cond b (Some (Span table column low high)) None) (λ read. read_table read ≡ table)) [ true ↦ refl | false ↦ tt ]
