use Rattle.std.proofs.Common.{◌≡◌, None, drop}
use Rattle.cli_words.specs.Language.{first, items_from, texts, values_in}
use Rattle.cli_words.proofs.given.find.Given as goal

-- what is left decides
abbrev pub invariant-loop-word : goal.invariant-loop-word
invariant-loop-word l = first (values_in (items_from l.waiting (texts (drop l.word-index l.words))) l.option) ≡ first (values_in (items_from None (texts l.words)) l.option)
