use Rattle.std.proofs.Common.{◌≡◌, ◌++◌, drop}
use Rattle.proc_syntax.specs.Declaring.{known_columns}
use Rattle.proc_syntax.proofs.declaring.known_columns.Given as goal

-- the numbers so far, and those of the names that are left
abbrev pub invariant-loop-named : goal.invariant-loop-named
invariant-loop-named l = l.numbers ++ known_columns l.columns (drop l.named-index l.names) ≡ known_columns l.columns l.names
