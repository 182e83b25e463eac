use Rattle.std.proofs.Common.{◌≡◌, ◌++◌, drop, map}
use Rattle.proc_code.specs.Resolved.{param_of}
use Rattle.proc_code.proofs.resolving.resolve_params.Given as goal

-- the parameters so far, and the rest
abbrev pub invariant-loop-param : goal.invariant-loop-param
invariant-loop-param l = l.made ++ map (param_of l.names) (drop l.param-index l.params) ≡ map (param_of l.names) l.params
