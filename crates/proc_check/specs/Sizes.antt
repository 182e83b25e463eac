-- How large the tables of a checked application are.
use Rattle.rel_base.specs.declared.schema.TableDef.{TableDef}
use Rattle.std.specs.Prelude.{length, ◌≤◌}

-- a table has at most 32 columns, and at most 8 in its key
pub record IsSmall (def : TableDef) : Type 0 where
  pub columns : length def.columns ≤ 32
  pub key : length def.key ≤ 8
