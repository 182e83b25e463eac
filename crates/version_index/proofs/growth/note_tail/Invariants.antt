use Rattle.std.proofs.Common.{◌≡◌, ◌≤◌, ◌-◌, length}
use Rattle.row_sets.specs.Log.{history_of}
use Rattle.version_index.specs.Index.{AreNoted, columns_in}
use Rattle.version_index.proofs.growth.note_tail.Given as goal

-- the indexes tell of those that are noted
abbrev pub invariant-loop-noted : goal.invariant-loop-noted
invariant-loop-noted l =
    (l.noted ≤ length l.entries) × (columns_in l.indexes.items ≡ columns_in l.initial.indexes.items) × AreNoted l.indexes.items (history_of l.entries) l.noted
    × (l.initial.noted ≤ l.noted)

abbrev pub decreases-loop-noted : goal.decreases-loop-noted
decreases-loop-noted l = length l.entries - l.noted
