use Rattle.std.proofs.Common.{◌≡◌, None}
use Rattle.std.specs.Prelude.{replicate}
use Rattle.direct_run.specs.Scope.{bindings_of}
use Rattle.direct_run.proofs.beginning.no_slots.Given as goal

-- one for each variable so far
abbrev pub invariant-loop-i : goal.invariant-loop-i
invariant-loop-i l = bindings_of l.slots.items ≡ replicate l._i None
