use Rattle.std.proofs.Common.{◌≡◌, ◌+◌, ◌≤◌, None, drop, length}
use Rattle.cli_words.specs.Language.{items_from, texts, values_in}
use Rattle.cli_words.proofs.given.count.Given as goal

-- what was counted and what is left are all
abbrev pub invariant-loop-word : goal.invariant-loop-word
invariant-loop-word l = (l.count ≤ l.word-index)
    × (l.count + length (values_in (items_from l.waiting (texts (drop l.word-index l.words))) l.option) ≡ length (values_in (items_from None (texts l.words)) l.option))
