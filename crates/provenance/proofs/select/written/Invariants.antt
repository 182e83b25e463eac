use Rattle.std.proofs.Common.{◌≡◌, ◌++◌, [], flat_map}
use Rattle.std.specs.List.{filter}
use Rattle.provenance.specs.Chosen.{is_writer, put_keys, written_on}
use Rattle.provenance.specs.Versions.{history_of}
use Rattle.provenance.proofs.select.written.Given as goal

-- with the versions of the keys that are left, the versions so far are those of all keys that the transaction wrote
abbrev pub invariant-loop-table : goal.invariant-loop-table
invariant-loop-table g l =
    (goal.iterator-loop-table g).can_next l.table-iterator
    × (goal.iterator-loop-table g).is_finite l.table-iterator
    × (l.told ++ flat_map (written_on l.tables l.blocks l.id) l.table-iterator ≡ flat_map (written_on l.tables l.blocks l.id) (put_keys [] (filter (is_writer l.blocks l.id) (history_of l.blocks))))
