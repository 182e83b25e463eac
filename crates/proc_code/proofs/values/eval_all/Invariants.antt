use Rattle.std.proofs.Common.{◌≡◌, drop}
use Rattle.proc_eval.proofs.Lists.{after}
use Rattle.proc_code.specs.Coded.{worths_of}
use Rattle.proc_code.proofs.values.eval_all.Given as goal

-- the values so far, and those of the rest
abbrev pub invariant-loop-term : goal.invariant-loop-term
invariant-loop-term g l = after l.values (worths_of l.columns (drop l.term-index l.terms) (g.E.Variables.environment l.environment)) ≡ worths_of l.columns l.terms (g.E.Variables.environment l.environment)
