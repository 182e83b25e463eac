use Rattle.std.proofs.Common.{All, ◌<◌, ◌^◌, length, take}
use Rattle.proc_syntax.proofs.declaring.has_few_columns.Given as goal

-- the tables so far have few columns
abbrev pub invariant-loop-text : goal.invariant-loop-text
invariant-loop-text l = All (λ table. length table.columns < 2 ^ 32) (take l.text-index l.text-items)
