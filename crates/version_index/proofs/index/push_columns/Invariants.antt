use Rattle.std.proofs.Common.{◌≡◌, ◌++◌, All, map, take}
use Rattle.version_index.specs.Index.{IsEmptyColumn}
use Rattle.version_index.proofs.index.push_columns.Given as goal

-- the columns so far are added
abbrev pub invariant-loop-number : goal.invariant-loop-number
invariant-loop-number l = (map (λ c. c.column) l.columns.items ≡ map (λ c. c.column) l.fn.columns.items ++ take l.number-index l.numbers) × All IsEmptyColumn l.columns.items
