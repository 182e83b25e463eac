use Rattle.std.specs.Prelude.{◌≡◌, Some}
use Rattle.std.proofs.lemmas.Result.{IfOk-weaker}
use Rattle.cli_words.specs.Language.{AreWithin, settled, texts}
use Rattle.cli_words.proofs.Ranges.{settled_within}
use Rattle.cli_words.proofs.read.read_words.Goals as goal

-- what the words come to lies in the ranges
pub returns-in-Some-command_of-clause-within : goal.returns-in-Some-command_of-clause-within
returns-in-Some-command_of-clause-within c =
    let command = c.in-Some-command_of.command in
    let words = texts c.in-Some.options.now in
    IfOk-weaker c.settle.result (λ settings. settled (Some command) words ≡ Some settings) AreWithin (settled_within command words) c.settle.ensures.ok
