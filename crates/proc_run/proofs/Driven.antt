-- A machine that is fed the rows of tables.
use Rattle.std.proofs.Common.{◌≡◌, refl, subst, sym, List, T, Option, Some, None, IfSome}
use Rattle.std.specs.Prelude.{slice_get}
use Rattle.std.specs.FinMap.Entries.{is_sorted}
use Rattle.rel_base.specs.declared.access.Read.{Read}
use Rattle.rel_base.specs.declared.access.Seen.{Seen}
use Rattle.rel_base.specs.declared.schema.TableDef.{TableDef}
use Rattle.rel_base.specs.Access.{read_table}
use Rattle.rel_base.specs.Among.{TablesFit, rows_by, rows_in}
use Rattle.rel_base.specs.OwnWrites.{keyed}
use Rattle.rel_base.specs.Tables.{Tables}
use Rattle.rel_base.specs.Value.{key_cmp}
use Rattle.proc_syntax.proofs.Merging.{keyed_sorted}
use Rattle.proc_run.specs.Remains.{StandInOrder}

-- the rows of a read of tables that fit stand in order
pub order_of : (declared : List TableDef) (read : Read) (rows : List Seen) (S : Tables) → TablesFit declared S → rows ≡ rows_in declared read S → StandInOrder declared read rows
order_of declared read rows S fit is = subst (StandInOrder declared read) (sym is) (by_found (slice_get declared (read_table read)) refl)
  where
    by_found : (found : Option TableDef) → slice_get declared (read_table read) ≡ found → IfSome found (λ def. T (is_sorted key_cmp (keyed def (rows_by found read S))))
    by_found None here = tt
    by_found (Some def) here = keyed_sorted declared def read S here fit
