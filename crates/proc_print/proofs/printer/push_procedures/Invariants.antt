use Rattle.std.proofs.Common.{◌≡◌, ◌++◌, flat_map, drop}
use Rattle.proc_print.specs.Printed.{procedure_text}
use Rattle.proc_print.proofs.printer.push_procedures.Given as goal

-- what is written and what is left make the whole
abbrev pub invariant-loop-procedure : goal.invariant-loop-procedure
invariant-loop-procedure l =
    l.out.items ++ flat_map procedure_text (drop l.procedure-index l.procedures) ≡ l.initial.out.items ++ flat_map procedure_text l.procedures
