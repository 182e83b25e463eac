use Rattle.std.proofs.Common.{◌∙◌, sym}
use Rattle.std.specs.Cmp.Lexicographic.{texts_ties}
use Rattle.rel_base.specs.Value.{value_eq}
use Rattle.rel_base.proofs.value.ValuePartialEq.eq.Goals as goal

-- texts are equal where they compare equal
pub returns-in-Text-Text : goal.returns-in-Text-Text
returns-in-Text-Text c =
    c.eq.ensures
    ∙ texts_ties c.in-Text-Text.text c.in-Text-Text.other
    ∙ sym (λ i. value_eq (c.in-Text-Text.is-0 i) (c.in-Text-Text.is-1 i))
