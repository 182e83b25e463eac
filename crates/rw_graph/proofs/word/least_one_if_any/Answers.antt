use Rattle.std.proofs.Common.{rules, ◌≡◌}
use Rattle.rw_graph.proofs.Words.{none_in_zero}
use Rattle.rw_graph.proofs.word.least_one_if_any.Goals as goal

pub returns-then-word-eq0-clause-least : goal.returns-then-word-eq0-clause-least
returns-then-word-eq0-clause-least c =
    let none : c.args.word ≡ 0 = search rules in
    none_in_zero c.args.word c.args.from none
