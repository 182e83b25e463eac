use Rattle.std.proofs.Common.{◌∙◌, ap, sym}
use Rattle.rel_base.specs.declared.access.Read.TheVariants.{Span}
use Rattle.version_index.proofs.Wanted.{ends_of}
use Rattle.version_index.proofs.Watching.{watched_backward}
use Rattle.std.specs.Option.{option_copied}
use Rattle.version_index.proofs.hits.first_by_column.Goals as goal

-- nothing lies between ends of which one is above the other
pub returns-then-not-is_in_order : goal.returns-then-not-is_in_order
returns-then-not-is_in_order c =
    watched_backward c.args.watch.now c.args.view.now c.args.column.now.column c.args.low.now c.args.high.now c.requires.watch c.requires.span (sym c.is_in_order.ensures ∙ c.if-not-is_in_order.true)

-- the span has the one value at both ends
pub first_touching-requires-clause-span : goal.first_touching-requires-clause-span
first_touching-requires-clause-span c =
    let ends = ends_of c.args.low.now c.args.high.now c.in-Some.value.now (sym (ap option_copied c.in-Some.is) ∙ c.one_value.ensures) in
    c.requires.span ∙ (λ i. Span c.args.view.now.table c.args.column.now.column (ends.0 i) (ends.1 i))
