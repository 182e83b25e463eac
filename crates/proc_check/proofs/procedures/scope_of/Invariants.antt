use Rattle.std.proofs.Common.{◌≡◌, map, take}
use Rattle.proc_check.specs.Apps.{parameter}
use Rattle.proc_check.proofs.procedures.scope_of.Given as goal

-- the parameters so far
abbrev pub invariant-loop-param : goal.invariant-loop-param
invariant-loop-param l = l.scope ≡ map parameter (take l.param-index l.params)
