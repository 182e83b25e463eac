use Rattle.chain_file.proofs.Counted.{file_numbered}
use Rattle.chain_file.proofs.laws.files_are_numbered.Goals as goal

pub returns : goal.returns
returns c = file_numbered
