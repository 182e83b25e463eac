use Rattle.std.proofs.Common.{◌∙◌, ◌++◌, ◌&&◌, ◌||◌, ◌==◌, ◌∷◌, [], ap, cond, not, sym, subst, refl}
use Rattle.std.specs.Option.{option_copied}
use Rattle.rel_base.proofs.Bits.{first_true, second_true}
use Rattle.version_index.specs.Columns.{IsRoomy, cell, has, has_slot, touched_at}
use Rattle.version_index.proofs.Cells.{and_never, not_from, or_other, stays_there}
use Rattle.version_index.proofs.column.ColumnIndex.note.Goals as goal

pub touch_values-requires-clause-found : goal.touch_values-requires-clause-found
touch_values-requires-clause-found c = subst (IsRoomy c.args.self.now.touched) (sym c.value_in-found.ensures) c.requires.found_room

pub touch_values-requires-clause-before : goal.touch_values-requires-clause-before
touch_values-requires-clause-before c = subst (IsRoomy c.args.self.now.touched) (sym (c.value_in-before.ensures ∙ ap (cell c.args.self.now.column) c.as_ref.ensures.value)) c.requires.before_room

-- the value after is not the one that was found, where it is passed
pub touch_values-requires-clause-other : goal.touch_values-requires-clause-other
touch_values-requires-clause-other c v there =
    let after = c.value_in-after.ensures ∙ ap (cell c.args.self.now.column) c.as_ref-2.ensures.value in
    let both = sym (c.unless-other.ensures v) ∙ there in
    c.requires.after_room v (ap (has v) (sym after) ∙ first_true (has v (option_copied c.value_in-after.result)) (not (has v (option_copied c.value_in-found.result))) both)

pub touch_values-requires-clause-apart : goal.touch_values-requires-clause-apart
touch_values-requires-clause-apart c v there =
    not_from (has v (option_copied c.value_in-found.result)) (second_true (has v (option_copied c.value_in-after.result)) (not (has v (option_copied c.value_in-found.result))) (sym (c.unless-other.ensures v) ∙ there))

pub returns : goal.returns
returns c =
    let column = c.args.self.now.column in
    let slot = c.args.slot in
    let found = c.value_in-found.ensures in
    let before = c.value_in-before.ensures ∙ ap (cell column) c.as_ref.ensures.value in
    let after = c.value_in-after.ensures ∙ ap (cell column) c.as_ref-2.ensures.value in
    let old = c.args.self.now.living.entries in
    let gone = option_copied c.gone.result in
    record {
      column = refl;
      own = λ v there.
          stays_there (has v gone) (slot == slot) (has v (option_copied c.value_in-after.result)) (has_slot old v slot) (has_slot c.leave.new.living.entries v slot) (c.leave.ensures v slot) (c.gone.ensures v)
          (ap (λ b. slot == slot && not b) (ap (has v) after ∙ first_true (has v (cell column c.args.write.now.after)) (not (has v (cell column (option_copied c.args.found)))) there) ∙ and_never (slot == slot))
          (c.requires.held v there);
      kept = λ v s had off.
          stays_there (has v gone) (s == slot) (has v (option_copied c.value_in-after.result)) (has_slot old v s) (has_slot c.leave.new.living.entries v s) (c.leave.ensures v s) (c.gone.ensures v)
          (ap (λ row. s == slot && not (has v row)) after ∙ off) had;
      touched = λ v.
          c.touch_values.ensures.touched v
          ∙ ap (λ b. cond b (touched_at c.args.self.now.touched v ++ c.args.number ∷ []) (touched_at c.args.self.now.touched v))
          (or_other (has v (option_copied c.value_in-found.result)) (has v (option_copied c.value_in-before.result)) (has v (option_copied c.value_in-after.result)) (has v (option_copied c.unless-other.result)) (c.unless-other.ensures v)
          ∙ (λ i. has v (found i) || has v (before i) || has v (after i)));
      listed = c.touch_values.ensures.listed;
    }
