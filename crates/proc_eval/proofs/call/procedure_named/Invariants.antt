use Rattle.std.proofs.Common.{◌≡◌, drop}
use Rattle.std.specs.List.{find}
use Rattle.std.specs.Str.{bytes_eq}
use Rattle.proc_eval.proofs.call.procedure_named.Given as goal

-- the procedure is among those that are left
abbrev pub invariant-loop-procedure : goal.invariant-loop-procedure
invariant-loop-procedure l =
    find (λ procedure. bytes_eq procedure.name.name l.name) (drop l.procedure-index l.procedure-items) ≡ find (λ procedure. bytes_eq procedure.name.name l.name) l.procedure-items
