-- The lines of versions: of each its table, who made it, who ended it, and its row.
use Rattle.std.specs.Prelude.{ℕ, List, ◌++◌, Option, Some, flat_map, codes, decimal}
use Rattle.node_model.specs.declared.version.Version.{Version}
use Rattle.rel_base.specs.declared.access.Place.{Place}
use Rattle.rel_base.specs.declared.schema.TableDef.{TableDef}
use Rattle.report_text.specs.Outcome.{table_name, values_text}
use Rattle.report_text.specs.Report.{line}

-- the block, the position and the id of a transaction, each after a space
abbrev pub author_text : Place → List ℕ → List ℕ
author_text place id = codes " " ++ decimal place.block ++ codes " " ++ decimal place.pos ++ codes " " ++ id

-- who ended a version, or that it lives
abbrev pub ended_text : Option Place → Option (List ℕ) → List ℕ
ended_text (Some place) (Some id) = author_text place id
ended_text _ _ = codes " never"

-- `version TABLE made BLOCK POS ID ended BLOCK POS ID row VALUES`
abbrev pub version_line : List TableDef → Version → List ℕ
version_line tables version =
    line (codes "version " ++ table_name tables version.table ++ codes " made" ++ author_text version.made version.maker ++ codes " ended"
    ++ ended_text version.ended version.ender ++ codes " row" ++ values_text version.row)

-- a line for each version
abbrev pub versions_text : List TableDef → List Version → List ℕ
versions_text tables versions = flat_map (version_line tables) versions
