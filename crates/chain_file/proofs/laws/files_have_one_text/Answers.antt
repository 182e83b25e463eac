use Rattle.chain_file.proofs.Chained.{file_spelled}
use Rattle.chain_file.proofs.laws.files_have_one_text.Goals as goal

pub returns : goal.returns
returns c = file_spelled
