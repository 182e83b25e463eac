use Rattle.chain_file.proofs.Back.{file_again}
use Rattle.chain_file.proofs.laws.files_come_back.Goals as goal

pub returns : goal.returns
returns c = file_again
