use Rattle.cli_words.proofs.Commands.{any_order}
use Rattle.cli_words.proofs.laws.options_in_any_order.Goals as goal

pub returns : goal.returns
returns c = any_order
