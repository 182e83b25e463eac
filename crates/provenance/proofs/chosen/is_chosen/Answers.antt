use Rattle.std.proofs.Common.{rules}
use Rattle.provenance.proofs.chosen.is_chosen.Goals as goal

pub returns-in-Each : goal.returns-in-Each
returns-in-Each c = search rules
