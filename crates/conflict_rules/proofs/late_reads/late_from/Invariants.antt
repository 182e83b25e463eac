use Rattle.std.proofs.Common.{drop, ◌+◌, ◌≡◌}
use Rattle.conflict_rules.proofs.late_reads.late_from.Given as goal
use Rattle.conflict_rules.specs.Late.{overtaken_from}
use Rattle.rel_base.specs.Tables.{writes_between}

-- what is left decides the whole
abbrev pub invariant-loop-index : goal.invariant-loop-index
invariant-loop-index g l =
    overtaken_from (g.V.Versions.tables l.versions) (l.index + 1) (drop l.index l.reads) (writes_between l.height l.upto (g.V.Versions.history l.versions))
    ≡ overtaken_from (g.V.Versions.tables l.versions) 1 l.reads (writes_between l.height l.upto (g.V.Versions.history l.versions))
