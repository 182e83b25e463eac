use Rattle.std.proofs.Common.{length, ◌-◌, ◌≡◌, ◌≤◌, take}
use Rattle.edge_traits.specs.Sink.{appended}
use Rattle.edge_traits.proofs.whole.write_whole.Given as goal

abbrev pub invariant-loop-done : goal.invariant-loop-done
invariant-loop-done g l = (l.done ≤ length l.bytes) × (g.W.Sink.faults l.out ≡ g.W.Sink.faults l.fn.out)
    × (g.W.Sink.written l.out ≡ appended (g.W.Sink.written l.fn.out) (take l.done l.bytes))

abbrev pub decreases-loop-done : goal.decreases-loop-done
decreases-loop-done g l = length l.bytes - l.done
