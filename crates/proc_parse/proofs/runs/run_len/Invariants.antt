use Rattle.std.proofs.Common.{◌≡◌, ◌+◌, drop}
use Rattle.proc_parse.specs.Tokens.{run_len}
use Rattle.proc_parse.proofs.runs.run_len.Given as goal

abbrev pub invariant-loop-at : goal.invariant-loop-at
invariant-loop-at l = run_len l.bytes ≡ l.at + run_len (drop l.at l.bytes)
