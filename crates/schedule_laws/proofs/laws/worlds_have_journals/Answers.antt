use Rattle.schedule_laws.proofs.Folding.{worlds_have_journals}
use Rattle.schedule_laws.proofs.laws.worlds_have_journals.Goals as goal

pub returns : goal.returns
returns c = worlds_have_journals
