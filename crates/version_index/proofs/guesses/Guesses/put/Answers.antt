use Rattle.version_index.proofs.PutIn.{stays_in}
use Rattle.version_index.proofs.guesses.Guesses.put.Goals as goal

pub returns-clause-kept : goal.returns-clause-kept
returns-clause-kept c = stays_in c.args.self.now.marks.items c.join_at.new.marks.items c.join_at.ensures.count c.join_at.ensures.kept
