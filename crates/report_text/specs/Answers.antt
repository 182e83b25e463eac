-- The lines of the answer of a query.
use Rattle.std.specs.Prelude.{ℕ, List, ◌++◌, flat_map, codes}
use Rattle.rel_base.specs.declared.value.Value.{Value}
use Rattle.report_text.specs.Outcome.{values_text}
use Rattle.report_text.specs.Report.{line}

-- `answer VALUES`
abbrev pub answer_line : List Value → List ℕ
answer_line row = line (codes "answer" ++ values_text row)

-- a line for each row of an answer
abbrev pub answers_text : List (List Value) → List ℕ
answers_text rows = flat_map answer_line rows
