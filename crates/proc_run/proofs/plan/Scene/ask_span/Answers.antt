use Rattle.std.proofs.Common.{rules}
use Rattle.proc_run.proofs.plan.Scene.ask_span.Goals as goal

pub returns-in_err-read : goal.returns-in_err-read
returns-in_err-read c = search rules

pub returns : goal.returns
returns c = search rules
