use Rattle.std.proofs.Common.{rules}
use Rattle.cli_words.proofs.read.to_provenance.Goals as goal

pub returns : goal.returns
returns c = search rules
