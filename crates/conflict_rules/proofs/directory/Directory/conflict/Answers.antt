use Rattle.std.proofs.Common.{subst, sym}
use Rattle.conflict_rules.proofs.Idle.{no_clash}
use Rattle.conflict_rules.proofs.directory.Directory.conflict.Goals as goal
use Rattle.conflict_rules.specs.Marking.{HasMarks, has_write_at, is_marked}

pub clash_among-requires-clause-only : goal.clash_among-requires-clause-only
clash_among-requires-clause-only c =
    no_clash c.as_slice.result.now c.args.committed.now c.marked_at_keys-found.result c.requires.directory.few c.args.writes.now (subst (λ words. HasMarks (λ done. has_write_at done.writes) (is_marked words) c.args.committed.now) (sym c.as_slice.ensures.value) c.requires.directory.writes) c.marked_at_keys-found.ensures
