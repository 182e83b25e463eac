use Rattle.std.proofs.Common.{rules, ◌≤◌}
use Rattle.bcdb.proofs.Processed.{folds_end}
use Rattle.bcdb.proofs.folding.Folding.end.Goals as goal

pub returns-clause-folds : goal.returns-clause-folds
returns-clause-folds c = λ told name read.
    let made = folds_end told name c.args.self c.args.stop c.stop_of-fault.result c.files_are_numbered.ensures c.stop_of-fault.ensures.whole c.stop_of-fault.ensures.stopped read in
    let few : c.args.self.taken ≤ 18446744073709551615 = search rules in
    (made.0, (record { numbered = made.1.0.0; few = few; holds = made.1.0.1 }, made.1.1))
