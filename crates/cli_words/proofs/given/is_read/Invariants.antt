use Rattle.std.proofs.Common.{◌≡◌, None, drop}
use Rattle.cli_words.specs.Language.{is_read, texts}
use Rattle.cli_words.proofs.given.is_read.Given as goal

-- what is left decides
abbrev pub invariant-loop-word : goal.invariant-loop-word
invariant-loop-word l = is_read l.waiting (texts (drop l.word-index l.words)) ≡ is_read None (texts l.words)
