use Rattle.chain_file.proofs.Longest.{file_bounded}
use Rattle.chain_file.proofs.laws.files_are_bounded.Goals as goal

pub returns : goal.returns
returns c = file_bounded
