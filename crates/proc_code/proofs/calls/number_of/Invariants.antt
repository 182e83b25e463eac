use Rattle.std.proofs.Common.{◌≡◌, drop}
use Rattle.std.specs.List.{find}
use Rattle.std.specs.Str.{bytes_eq}
use Rattle.proc_code.proofs.calls.number_of.Given as goal

-- the procedure is among those that are left
abbrev pub invariant-loop-i : goal.invariant-loop-i
invariant-loop-i l = find (λ procedure. bytes_eq procedure.name l.name) (drop l.i l.procs) ≡ find (λ procedure. bytes_eq procedure.name l.name) l.procs
