use Rattle.std.proofs.Common.{rules}
use Rattle.proc_run.proofs.resume.seen_rows.Goals as goal

pub returns-in-Some : goal.returns-in-Some
returns-in-Some c = search rules
