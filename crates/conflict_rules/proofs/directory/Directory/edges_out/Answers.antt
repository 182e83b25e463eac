use Rattle.std.proofs.Common.{subst, sym}
use Rattle.conflict_rules.proofs.Idle.{no_edge_out}
use Rattle.conflict_rules.proofs.directory.Directory.edges_out.Goals as goal
use Rattle.conflict_rules.specs.Marking.{HasMarks, has_value_in, has_write_at, is_marked, is_value_marked}

pub out_among-requires-clause-only : goal.out_among-requires-clause-only
out_among-requires-clause-only c =
    no_edge_out c.as_slice.result.now c.args.committed.now c.marked_at_reads-found.result c.requires.directory.few c.args.tables.now c.args.self.now.marked c.args.reads.now
    (subst (λ words. HasMarks (λ done. has_write_at done.writes) (is_marked words) c.args.committed.now) (sym c.as_slice.ensures.value) c.requires.directory.writes)
    (subst (λ words. HasMarks (λ done. has_value_in c.args.self.now.marked done.writes) (is_value_marked words) c.args.committed.now) (sym c.as_slice.ensures.value) c.requires.directory.values)
    c.requires.committed c.marked_at_reads-found.ensures
