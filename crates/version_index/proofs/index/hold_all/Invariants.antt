use Rattle.std.proofs.Common.{All, take}
use Rattle.std.specs.List.{AllZip}
use Rattle.std.specs.Option.{option_copied}
use Rattle.version_index.specs.Columns.{IsReady, IsSameColumn}
use Rattle.version_index.proofs.index.hold_all.Given as goal

-- all columns tell the same, and those so far are ready
abbrev pub invariant-loop-column : goal.invariant-loop-column
invariant-loop-column l = AllZip IsSameColumn l.fn.columns.items l.column-items × All (IsReady l.slot (option_copied l.found) l.write) (take l.column-index l.column-items)
