use Rattle.std.proofs.Common.{◌≡◌, ◌+◌, length, take}
use Rattle.proc_check.proofs.scope.Scope.leave.Given as goal

-- those that were there first are there still, and as many more as are left to take out
abbrev pub invariant-loop : goal.invariant-loop
invariant-loop l = (take l.count l.self ≡ take l.count l.fn.self) × (length l.self + l.counter ≡ length l.fn.self + l.count)
