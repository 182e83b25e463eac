use Rattle.std.proofs.Common.{rules}
use Rattle.report_text.proofs.version.push_ended.Goals as goal

pub returns-in-Some-Some : goal.returns-in-Some-Some
returns-in-Some-Some c = search rules
