use Rattle.std.proofs.Common.{◌∙◌, ◌==◌, ap}
use Rattle.std.specs.Cmp.{unsigned_ties}
use Rattle.std.specs.Ordering.{is_eq}
use Rattle.rel_base.proofs.Words.{as_numbers}
use Rattle.rel_base.proofs.rooms.is_same_word.Goals as goal

-- two numbers are one where they compare equal, and they compare as their bytes do
pub returns : goal.returns
returns c =
    (λ i. c.word_at.ensures i == c.word_at-2.ensures i)
    ∙ unsigned_ties _ _
    ∙ ap is_eq (as_numbers c.args.at c.args.first.now c.args.second.now c.requires.first c.requires.second c.type_inv.first c.type_inv.second)
