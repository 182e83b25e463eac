use Rattle.std.proofs.Common.{rules}
use Rattle.provenance.proofs.select.takes_key.Goals as goal

pub returns-in-Some : goal.returns-in-Some
returns-in-Some c = search rules
