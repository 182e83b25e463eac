use Rattle.std.proofs.Common.{◌≡◌}
use Rattle.std.specs.Vec.{vec_len}
use Rattle.row_sets.specs.Few.{in_order}
use Rattle.row_sets.proofs.few_writes.move_all.Given as goal

-- the writes in order stay
abbrev pub invariant-loop-few : goal.invariant-loop-few
invariant-loop-few l = in_order l.few l.many ≡ in_order l.fn.few l.fn.many

abbrev pub decreases-loop-few : goal.decreases-loop-few
decreases-loop-few l = vec_len l.few
