use Rattle.std.proofs.Common.{◌≡◌, ap, sym, subst, ◌∙◌, IfOk, List}
use Rattle.rel_base.specs.OwnWrites.{merged}
use Rattle.rel_base.specs.declared.value.Value.{Value}
use Rattle.row_sets.specs.Forms.{written_in}
use Rattle.row_sets.specs.Overlay.{own_of}
use Rattle.row_sets.specs.declared.overlay.Writes.TheVariants.{Few, Many}
use Rattle.row_sets.proofs.overlay.Overlay.merge.Goals as goal

pub merge_span-requires-clause-span : goal.merge_span-requires-clause-span
merge_span-requires-clause-span c = (c.in-Span.column, c.in-Span.low, c.in-Span.high, c.in-Span.is)

pub merge_span-requires-in-Many-clause-span : goal.merge_span-requires-in-Many-clause-span
merge_span-requires-in-Many-clause-span c = (c.in-Span.column, c.in-Span.low, c.in-Span.high, c.in-Span.is)

pub returns-in-Few : goal.returns-in-Few
returns-in-Few c =
    let same : written_in (Few c.in-Few.own) ≡ c.args.self.now = ap written_in (sym c.in-Few.is) ∙ c.self.view_is in
    subst (λ (wanted : List (List Value)). IfOk c.merge_span.result (λ rows. rows ≡ wanted)) (ap (λ own. merged c.args.def.now c.args.read.now (own_of own) c.args.base.now) same) c.merge_span.ensures

pub returns-in-Many : goal.returns-in-Many
returns-in-Many c =
    let same : written_in (Many c.in-Many.own) ≡ c.args.self.now = ap written_in (sym c.in-Many.is) ∙ c.self.view_is in
    subst (λ (wanted : List (List Value)). IfOk c.merge_span-in-Many.result (λ rows. rows ≡ wanted)) (ap (λ own. merged c.args.def.now c.args.read.now (own_of own) c.args.base.now) same) c.merge_span-in-Many.ensures
