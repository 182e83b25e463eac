use Rattle.std.proofs.Common.{◌∙◌, ◌⊎◌, inl, inr, List, subst, sym}
use Rattle.rel_base.specs.declared.value.Value.{Value}
use Rattle.version_index.specs.Candidates.{IsListedAbove, IsWrittenFrom}
use Rattle.version_index.specs.Columns.{touches_at}
use Rattle.version_index.specs.Span.{IsTouchedSince}
use Rattle.version_index.specs.View.{history_in}
use Rattle.version_index.proofs.Adding.{adds_then, on_ok}
use Rattle.version_index.proofs.Marked.{listed_at}
use Rattle.version_index.proofs.span.add_touching.Goals as goal

pub add_listed-requires-clause-numbers : goal.add_listed-requires-clause-numbers
add_listed-requires-clause-numbers c =
    (touches_at c.args.view.now.table c.args.column.now.column c.args.value.now (history_in c.args.view.now), c.numbers.ensures ∙ c.requires.column.touched c.args.value.now)

pub returns : goal.returns
returns c =
    let view = c.args.view.now in
    on_ok c.add_from.result (adds_then view.index.now.chains c.args.found.now.items c.add_listed.new.found.items c.add_from.new.found.items (IsListedAbove view c.numbers.result.now c.args.height) (IsWrittenFrom view view.noted)
    (IsTouchedSince view c.args.column.now.column c.args.value.now c.args.height) either c.in_ok-add_listed.ensures) c.add_from.ensures
  where
    either : (key : List Value) → IsTouchedSince c.args.view.now c.args.column.now.column c.args.value.now c.args.height key
        → IsListedAbove c.args.view.now c.numbers.result.now c.args.height key ⊎ IsWrittenFrom c.args.view.now c.args.view.now.noted key
    either key (inr written) = inr written
    either key (inl above) =
        inl (subst (λ numbers. IsListedAbove c.args.view.now numbers c.args.height key) (sym c.numbers.ensures) (listed_at c.args.view.now c.args.column.now c.args.value.now c.args.height key c.requires.column above))
