use Rattle.std.proofs.Common.{rules}
use Rattle.proc_run.proofs.going.settle.Goals as goal

pub returns-in-Some-clause-remains : goal.returns-in-Some-clause-remains
returns-in-Some-clause-remains c = search rules

pub returns-in-Some-clause-fed : goal.returns-in-Some-clause-fed
returns-in-Some-clause-fed c = search rules
