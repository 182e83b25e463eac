use Rattle.std.proofs.Common.{◌≡◌, ◌++◌, drop, map}
use Rattle.proc_code.specs.Resolved.{proc_of}
use Rattle.proc_code.proofs.resolving.resolve_procs.Given as goal

-- the procedures so far, and the rest
abbrev pub invariant-loop-procedure : goal.invariant-loop-procedure
invariant-loop-procedure l = l.procs ++ map (proc_of l.tables) (drop l.procedure-index l.procedures) ≡ map (proc_of l.tables) l.procedures
