use Rattle.std.proofs.Common.{◌∙◌, ap, subst, sym}
use Rattle.std.specs.Option.{option_copied}
use Rattle.version_index.specs.Candidates.{IsAtBetween}
use Rattle.version_index.specs.Span.{HasCellAt, IsChangedBetween, IsTouchedSince}
use Rattle.version_index.proofs.Adding.{adds_then, adds_weaker, on_ok}
use Rattle.version_index.proofs.AtValues.{same_value}
use Rattle.version_index.proofs.Wanted.{between_one, cell_found}
use Rattle.version_index.proofs.span.add_by_column.Goals as goal

-- a row is there still, or its key changed since
pub returns-in-None : goal.returns-in-None
returns-in-None c =
    let view = c.args.view.now in
    let column = c.args.column.now in
    on_ok c.add_between.result (adds_then view.index.now.chains c.args.found.now.items c.add_living.new.found.items c.add_between.new.found.items
    (IsAtBetween view column.living.entries c.args.ends.low.now c.args.ends.high.now) (IsChangedBetween view column.column c.args.ends.low.now c.args.ends.high.now c.args.height)
    (HasCellAt view column.column c.args.ends.low.now c.args.ends.high.now c.args.height) (cell_found view c.requires.view c.args.height column c.requires.column c.args.ends.low.now c.args.ends.high.now)
    c.in_ok-add_living.ensures) c.add_between.ensures

-- what lies between ends of one value is that value
pub returns-in-Some : goal.returns-in-Some
returns-in-Some c =
    let view = c.args.view.now in
    let column = c.args.column.now in
    let value = c.in-Some.value.now in
    let low = c.args.ends.low.now in
    let high = c.args.ends.high.now in
    let one = sym c.one_value.ensures ∙ ap option_copied c.in-Some.is in
    on_ok c.add_touching.result (λ touched. adds_then view.index.now.chains c.args.found.now.items c.add_living.new.found.items c.add_touching.new.found.items
    (IsAtBetween view column.living.entries low high) (IsChangedBetween view column.column low high c.args.height)
    (HasCellAt view column.column low high c.args.height) (cell_found view c.requires.view c.args.height column c.requires.column low high)
    c.in_ok-add_living.ensures (adds_weaker view.index.now.chains c.add_living.new.found.items c.add_touching.new.found.items (IsTouchedSince view column.column value c.args.height) (IsChangedBetween view column.column low high c.args.height)
    (λ key changed. subst (λ v. IsTouchedSince view column.column v c.args.height key) (sym (same_value value changed.0 (between_one low high value changed.0 one changed.1))) changed.2) touched)) c.add_touching.ensures
