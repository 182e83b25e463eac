use Rattle.std.proofs.Common.{◌≡◌, ◌++◌, drop}
use Rattle.report_text.specs.Outcome.{path_text}
use Rattle.report_text.proofs.outcome.push_path.Given as goal

-- what is written and what is left make the whole
abbrev pub invariant-loop-pos : goal.invariant-loop-pos
invariant-loop-pos l =
    l.out ++ path_text (drop l.pos-index l.path) ≡ l.initial.out ++ path_text l.path
