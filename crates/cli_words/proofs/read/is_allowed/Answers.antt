use Rattle.std.proofs.Common.{rules}
use Rattle.cli_words.proofs.read.is_allowed.Goals as goal

pub returns-in-May : goal.returns-in-May
returns-in-May c = search rules
