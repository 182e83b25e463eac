-- Keys and spans that were made up fit their tables.
use Rattle.std.proofs.Common.{◌≡◌, ℕ, List, refl, sym, ap, subst, ◌∙◌, true, false, cond, Result, Ok, Option, Some, None, IfSome, ◌&&◌, ◌==◌}
use Rattle.std.specs.List.{list_any}
use Rattle.std.specs.Option.{option_map}
use Rattle.rel_base.specs.declared.access.Read.{Read}
use Rattle.rel_base.specs.declared.access.Read.TheVariants.{Span}
use Rattle.rel_base.specs.declared.schema.TableDef.{TableDef}
use Rattle.rel_base.specs.declared.value.Value.{Value}
use Rattle.rel_base.specs.Access.{ReadFits, read_table}
use Rattle.rel_base.specs.Schema.{KeyFits, RowFits, key_of_row, kind_at, span_columns}
use Rattle.rel_base.specs.Tables.{Tables}
use Rattle.proc_syntax.specs.declared.run.Stop.{Stop}
use Rattle.proc_syntax.specs.Steps.{each_held, end_has, for_rows, key_for, span_of, with_rows, with_some, with_value}
use Rattle.proc_syntax.specs.Values.{found}
use Rattle.proc_syntax.proofs.Fits.{key_fits, key_of_fit, span_fits}
use Rattle.proc_code.specs.Coded.{State, Progress, hold, table_at}
use Rattle.direct_run.specs.Runs.{IsTable}
use Rattle.direct_run.specs.Steps.{IsSpanOf, is_span}
use Rattle.direct_run.specs.declared.looking.Table.{Table}

-- what was found is there
found_is : {A : Type 0} (o : Option A) (x : A) → found o ≡ Ok x → o ≡ Some x
found_is None x is = cc
found_is (Some y) x is = cc

-- the key of a row that fits
pub key_fits_table : (def : TableDef) (row key : List Value) → found (key_for def row) ≡ Ok key → KeyFits def key
key_fits_table def row key is =
    let fits = subst (λ o. IfSome o (λ key. RowFits def row × (key_of_row def row ≡ key))) (found_is (key_for def row) key is) (key_fits def row) in
    subst (KeyFits def) fits.1 (key_of_fit def row fits.0)

-- ---- spans

shape : (def : TableDef) (table : ℕ) (column : Option ℕ) (low high : Option Value) → IfSome (span_of def table column low high) (λ read. is_span read ≡ true)
shape def table None low high = tt
shape def table (Some column) low high =
    elim (list_any (λ c. c == column) (span_columns def) && (end_has (kind_at def column) low && end_has (kind_at def column) high))
    as (λ b. IfSome (cond b (Some (Span table column low high)) None) (λ read. is_span read ≡ true)) [ true ↦ refl | false ↦ tt ]

-- a `for` comes to its read, and the block for each row that it gets
pub spans_to : (declared : List TableDef) (table : Table) (number : ℕ) (column : Option ℕ) (from to : Result (Option Value) Stop) (low high : Option Value) (read : Read) (tables : Tables) (slot : ℕ) (st : State)
    → IsTable declared table → table.number ≡ number → from ≡ Ok low → to ≡ Ok high → found (span_of table.def.now table.number column low high) ≡ Ok read
    → IsSpanOf declared table read × ((body : State → Progress) → for_rows tables (table_at declared number) (λ def. column) from to (hold slot) body st ≡ with_rows tables table.def.now read st (each_held (hold slot table.number) body))
spans_to declared table number column from to low high read tables slot st here at from_is to_is read_is =
    let def = table.def.now in
    let span : span_of def table.number column low high ≡ Some read = found_is (span_of def table.number column low high) read read_is in
    let fits = subst (λ o. IfSome o (λ read. (read_table read ≡ table.number) × ReadFits def read)) span (span_fits def table.number column low high) in
    let is : is_span read ≡ true = subst (λ o. IfSome o (λ read. is_span read ≡ true)) span (shape def table.number column low high) in (
      record { table_is = here; of = fits.0; fits = fits.1; span = is },
      λ body.
          let go : ℕ → TableDef → Read → Progress = λ number def read. with_rows tables def read st (each_held (hold slot number) body) in
          ap (λ n. for_rows tables (table_at declared n) (λ def. column) from to (hold slot) body st) (sym at)
          ∙ ap (λ o. with_some {A = ℕ × TableDef} (option_map (λ def. (table.number, def)) o) st (λ named. with_value from st (λ low. with_value to st (λ high. with_some (span_of named.1 named.0 column low high) st (go named.0 named.1))))) here
          ∙ ap (λ r. with_value r st (λ low. with_value to st (λ high. with_some (span_of def table.number column low high) st (go table.number def)))) from_is
          ∙ ap (λ r. with_value r st (λ high. with_some (span_of def table.number column low high) st (go table.number def))) to_is
          ∙ ap (λ o. with_some o st (go table.number def)) span,
    )
