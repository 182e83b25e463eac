use Rattle.schedule_laws.proofs.Waiting.{holder_named, waiting_due}
use Rattle.schedule_laws.proofs.laws.commits_wait.Goals as goal

pub returns-clause-waiting : goal.returns-clause-waiting
returns-clause-waiting c = waiting_due

pub returns-clause-held : goal.returns-clause-held
returns-clause-held c = holder_named
