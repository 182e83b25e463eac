-- What the plain store keeps true.
use Rattle.std.specs.Prelude.{List}
use Rattle.rel_base.specs.declared.schema.TableDef.{TableDef}
use Rattle.rel_base.specs.Tables.{HistoryFits}
use Rattle.row_sets.specs.declared.entry.LogEntry.{LogEntry}
use Rattle.row_sets.specs.Log.{history_of}

-- its writes fit their tables
abbrev pub IsKept : List TableDef → List LogEntry → Type 0
IsKept defs log = HistoryFits defs (history_of log)
