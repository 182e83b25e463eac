use Rattle.schedule_laws.proofs.Facts.{facts_always_hold, steps_keep_facts}
use Rattle.schedule_laws.proofs.laws.facts_hold.Goals as goal

pub returns-clause-kept : goal.returns-clause-kept
returns-clause-kept c = steps_keep_facts

pub returns-clause-always : goal.returns-clause-always
returns-clause-always c = facts_always_hold
