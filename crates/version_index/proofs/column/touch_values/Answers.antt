use Rattle.std.proofs.Common.{◌≡◌, ◌∙◌, ◌++◌, ◌∷◌, [], ◌&&◌, ap, cond, not, sym, true}
use Rattle.std.specs.Option.{option_copied}
use Rattle.rel_base.proofs.Bits.{first_true, second_true}
use Rattle.version_index.specs.Columns.{has, touched_at}
use Rattle.version_index.proofs.Cells.{added_all, apart_from, not_from}
use Rattle.version_index.proofs.column.touch_values.Goals as goal

-- the last value is another than the two that were touched
pub touch_value-requires-3-clause-room : goal.touch_value-requires-3-clause-room
touch_value-requires-3-clause-room c value there =
    let found = has value (option_copied c.args.found) in
    let before = has value (option_copied c.args.before) in
    let other = has value (option_copied c.args.other) in
    let both : (other && not before) ≡ true = sym (c.unless-2.ensures value) ∙ there in
    let here = first_true other (not before) both in
    let not_before = not_from before (second_true other (not before) both) in
    c.touch_value-2.ensures.kept value (c.unless.ensures value ∙ ap (λ h. h && not found) not_before) (c.touch_value.ensures.kept value (c.requires.apart value here) (c.requires.other value here))

pub returns-clause-touched : goal.returns-clause-touched
returns-clause-touched c v =
    let found = has v (option_copied c.args.found) in
    let before = has v (option_copied c.args.before) in
    let other = has v (option_copied c.args.other) in
    let second = has v (option_copied c.unless.result) in
    let third = has v (option_copied c.unless-2.result) in
    let one = c.args.number ∷ [] in
    c.touch_value-3.ensures.touched v
    ∙ ap (λ xs. cond third (xs ++ one) xs) (c.touch_value-2.ensures.touched v ∙ ap (λ xs. cond second (xs ++ one) xs) (c.touch_value.ensures.touched v))
    ∙ added_all found before other second third c.args.number (touched_at c.args.touched.now v) (c.unless.ensures v) (c.unless-2.ensures v ∙ ap (λ h. h && not before) (apart_from other found (c.requires.apart v)))
