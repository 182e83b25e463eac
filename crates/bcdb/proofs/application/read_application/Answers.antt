use Rattle.std.proofs.Common.{arith}
use Rattle.std.proofs.lemmas.Grind.{common_steps}
use Rattle.bcdb.proofs.application.read_application.Goals as goal

pub returns-then-bytes-gt-LONGEST_APPLICATION-clause-refused : goal.returns-then-bytes-gt-LONGEST_APPLICATION-clause-refused
returns-then-bytes-gt-LONGEST_APPLICATION-clause-refused c = grind (arith, common_steps)
