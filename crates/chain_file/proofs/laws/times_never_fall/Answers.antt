use Rattle.chain_file.proofs.Counted.{file_timed}
use Rattle.chain_file.proofs.laws.times_never_fall.Goals as goal

pub returns : goal.returns
returns c = file_timed
