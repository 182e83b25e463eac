use Rattle.std.proofs.Common.{◌∙◌, ◌&&◌, ap, not, subst}
use Rattle.std.specs.Option.{option_copied}
use Rattle.row_sets.proofs.Endings.{on_ok_then}
use Rattle.version_index.specs.Columns.{IsRoomy, cell, has}
use Rattle.version_index.proofs.Cells.{roomy_unless}
use Rattle.version_index.proofs.column.ColumnIndex.hold.Goals as goal

pub returns-clause-ready : goal.returns-clause-ready
returns-clause-ready c =
    let column = c.args.self.now.column in
    let touched = c.hold_values.new.touched in
    let found = c.value_in-found.ensures in
    let before = c.value_in-before.ensures ∙ ap (cell column) c.as_ref.ensures.value in
    let after = c.value_in-after.ensures ∙ ap (cell column) c.as_ref-2.ensures.value in
    let other = c.unless-other.ensures in
    on_ok_then c.hold_at.result (λ held. record {
      held = λ v there. held v (other v ∙ (λ i. has v (after i) && not (has v (found i))) ∙ there);
      found_room = subst (IsRoomy touched) found c.in_ok-hold_values.ensures.found;
      before_room = subst (IsRoomy touched) before c.in_ok-hold_values.ensures.before;
      after_room = subst (IsRoomy touched) after
          (roomy_unless touched (option_copied c.value_in-after.result) (option_copied c.value_in-found.result) (option_copied c.unless-other.result) other c.in_ok-hold_values.ensures.found c.in_ok-hold_values.ensures.other);
      listed = c.hold_values.ensures.listed;
    }) c.hold_at.ensures.held
