use Rattle.std.proofs.Common.{◌≡◌, ◌≤◌, ◌-◌, drop, length}
use Rattle.proc_run.specs.Remains.{state, IsSameRest}
use Rattle.proc_run.proofs.assigning.assign_all.Given as goal

-- what is left comes to the same
abbrev pub invariant-loop-alloc : goal.invariant-loop-alloc
invariant-loop-alloc l =
    (l.run.steps ≤ 100000) × (l.fn.run.steps ≤ l.run.steps) × (l.run.made ≡ l.fn.run.made) × (l.run.own ≡ l.fn.run.own)
    × IsSameRest l.columns (drop l.fn.next l.block) (state l.fn.run) (drop l.next l.block) (state l.run)

abbrev pub decreases-loop-alloc : goal.decreases-loop-alloc
decreases-loop-alloc l = length l.block - l.next
