use Rattle.std.proofs.Common.{◌∙◌, [], refl, subst, sym}
use Rattle.std.specs.List.Sorted.{IsStrictlySortedBy}
use Rattle.rel_base.specs.Value.{key_cmp}
use Rattle.version_index.specs.Span.{keys_in}
use Rattle.version_index.proofs.Distinct.{rising_sorted}
use Rattle.version_index.proofs.Ranges.{none_between}
use Rattle.version_index.proofs.span.keys_of_span.Goals as goal

pub returns-else-is_in_order-clause-rise : goal.returns-else-is_in_order-clause-rise
returns-else-is_in_order-clause-rise c = subst (λ found. IsStrictlySortedBy key_cmp (keys_in found)) (sym c.new.ensures.items) (rising_sorted [] refl)

-- nothing lies between ends of which one is above the other
pub returns-else-is_in_order-clause-all : goal.returns-else-is_in_order-clause-all
returns-else-is_in_order-clause-all c key wanted =
    absurd (none_between c.args.ends.low.now c.args.ends.high.now wanted.by_cell.value (sym c.is_in_order.ensures ∙ c.if-is_in_order.false) wanted.by_cell.between)
