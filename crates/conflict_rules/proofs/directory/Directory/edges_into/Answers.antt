use Rattle.std.proofs.Common.{subst, sym}
use Rattle.conflict_rules.proofs.Idle.{no_edge_into}
use Rattle.conflict_rules.proofs.directory.Directory.edges_into.Goals as goal
use Rattle.conflict_rules.specs.Marking.{AreReadsMarked}

pub into_among-requires-clause-only : goal.into_among-requires-clause-only
into_among-requires-clause-only c =
    no_edge_into c.as_slice.result.now c.args.committed.now c.marked_at_writes-found.result c.requires.directory.few c.args.tables.now c.args.self.now.marked c.args.writes.now
    (subst (λ words. AreReadsMarked c.args.self.now.marked words c.args.committed.now) (sym c.as_slice.ensures.value) c.requires.directory.reads)
    c.requires.writes c.marked_at_writes-found.ensures
