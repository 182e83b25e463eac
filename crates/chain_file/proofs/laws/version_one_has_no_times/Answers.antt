use Rattle.chain_file.proofs.Counted.{file_untimed}
use Rattle.chain_file.proofs.laws.version_one_has_no_times.Goals as goal

pub returns : goal.returns
returns c = file_untimed
