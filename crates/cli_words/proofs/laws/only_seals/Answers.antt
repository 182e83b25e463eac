use Rattle.cli_words.proofs.Seals.{only_seals, seal_read}
use Rattle.cli_words.proofs.laws.only_seals.Goals as goal

pub returns : goal.returns
returns c = (seal_read, only_seals)
