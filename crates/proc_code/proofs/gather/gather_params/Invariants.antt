use Rattle.std.proofs.Common.{◌≡◌, drop, map}
use Rattle.proc_code.specs.Numbers.{with_names}
use Rattle.proc_code.proofs.gather.gather_params.Given as goal

-- with the names of the parameters that are left come the names of all
abbrev pub invariant-loop-param : goal.invariant-loop-param
invariant-loop-param l = with_names l.names (map (λ param. param.name.name) (drop l.param-index l.params)) ≡ with_names l.fn.names (map (λ param. param.name.name) l.params)
