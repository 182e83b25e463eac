use Rattle.block_work.proofs.Fitting.{runs_fit}
use Rattle.block_work.proofs.laws.runs_fit.Goals as goal

pub returns : goal.returns
returns c = runs_fit
