use Rattle.std.proofs.Common.{◌≡◌, ◌≤◌, drop, length}
use Rattle.std.specs.Option.{IfSome}
use Rattle.rel_base.specs.Access.{read_table}
use Rattle.rel_base.specs.Tables.{writes_between}
use Rattle.row_sets.specs.Log.{history_of}
use Rattle.version_store.specs.Hits.{least_of}
use Rattle.version_store.specs.Log.{IsOfTable, write_of}
use Rattle.version_store.proofs.hits.least_at.Given as goal

-- the least hit from the start on
abbrev pub invariant-loop-start : goal.invariant-loop-start
invariant-loop-start l =
    (l.start ≤ length l.log) × IfSome l.least (IsOfTable l.log (read_table l.watch.read.now))
    × (write_of (history_of l.log) l.least ≡ least_of l.watch.def.now l.watch.read.now (writes_between l.watch.after l.watch.upto (drop l.start (history_of l.log))))

abbrev pub decreases-loop-start : goal.decreases-loop-start
decreases-loop-start l = l.start
