use Rattle.std.proofs.Common.{◌≡◌, drop}
use Rattle.cli_words.specs.Language.{are_taken, given, texts}
use Rattle.cli_words.proofs.read.are_taken.Given as goal

-- what is left decides
abbrev pub invariant-loop-option : goal.invariant-loop-option
invariant-loop-option l = are_taken l.command (drop l.option-index l.options) (given (texts l.words)) ≡ are_taken l.command l.options (given (texts l.words))
