use Rattle.std.proofs.Common.{◌≡◌, ◌++◌, drop, flat_map}
use Rattle.report_text.specs.Answers.{answer_line}
use Rattle.report_text.proofs.answer.push_answers.Given as goal

-- with the lines of the rows that are left, what is written are the lines of all
abbrev pub invariant-loop-row : goal.invariant-loop-row
invariant-loop-row l = l.out ++ flat_map answer_line (drop l.row-index l.rows) ≡ l.initial.out ++ flat_map answer_line l.rows
