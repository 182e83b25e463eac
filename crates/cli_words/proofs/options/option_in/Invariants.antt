use Rattle.std.proofs.Common.{◌≡◌, drop}
use Rattle.cli_words.specs.Table.{option_in}
use Rattle.cli_words.proofs.options.option_in.Given as goal

-- what is left decides
abbrev pub invariant-loop-option : goal.invariant-loop-option
invariant-loop-option l = option_in (drop l.option-index l.options) l.word ≡ option_in l.options l.word
