use Rattle.std.proofs.Common.{◌≡◌, All, map, take}
use Rattle.version_index.specs.Index.{IsEmptyIndex, columns_in, index_columns}
use Rattle.version_index.proofs.store.no_indexes.Given as goal

-- the indexes so far have the columns of their tables, and no write
abbrev pub invariant-loop-def : goal.invariant-loop-def
invariant-loop-def l = (columns_in l.indexes.items ≡ map index_columns (take l.def-index l.defs)) × All IsEmptyIndex l.indexes.items
