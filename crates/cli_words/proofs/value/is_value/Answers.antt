use Rattle.std.proofs.Common.{rules}
use Rattle.cli_words.proofs.value.is_value.Goals as goal

pub returns-in-len1-up : goal.returns-in-len1-up
returns-in-len1-up c = search rules
