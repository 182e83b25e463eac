use Rattle.std.proofs.Common.{◌≡◌, drop, take}
use Rattle.std.specs.List.{AllZip}
use Rattle.std.specs.Option.{option_copied}
use Rattle.version_index.specs.Columns.{IsNotedIn}
use Rattle.version_index.proofs.index.note_all.Given as goal

-- the columns so far have noted the write, and those that are left are as they were
abbrev pub invariant-loop-column : goal.invariant-loop-column
invariant-loop-column l =
    AllZip (IsNotedIn l.slot (option_copied l.found) l.write l.number) (take l.column-index l.fn.columns.items) (take l.column-index l.column-items)
    × (drop l.column-index l.column-items ≡ drop l.column-index l.fn.columns.items)
