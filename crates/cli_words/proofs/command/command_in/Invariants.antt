use Rattle.std.proofs.Common.{◌≡◌, drop}
use Rattle.cli_words.specs.Table.{command_in}
use Rattle.cli_words.proofs.command.command_in.Given as goal

-- what is left decides
abbrev pub invariant-loop-command : goal.invariant-loop-command
invariant-loop-command l = command_in (drop l.command-index l.commands) l.word ≡ command_in l.commands l.word
