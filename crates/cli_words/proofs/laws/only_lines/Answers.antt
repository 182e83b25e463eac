use Rattle.cli_words.proofs.Commands.{only_lines}
use Rattle.cli_words.proofs.laws.only_lines.Goals as goal

pub returns : goal.returns
returns c = only_lines
