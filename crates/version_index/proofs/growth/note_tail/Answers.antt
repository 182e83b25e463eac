use Rattle.std.proofs.Common.{arith}
use Rattle.std.proofs.lemmas.Grind.{common_steps}
use Rattle.version_index.proofs.growth.note_tail.Goals as goal

pub note_one-requires-clause-tables : goal.note_one-requires-clause-tables
note_one-requires-clause-tables c = grind (arith, common_steps)
