use Rattle.std.proofs.Common.{◌≡◌, ◌+◌, ◌<◌, arith, drop, length, subst, suc, slice_set, sym, take}
use Rattle.std.specs.List.{AllZip}
use Rattle.std.specs.Option.{option_copied}
use Rattle.version_index.specs.Columns.{IsNotedIn, IsReady}
use Rattle.version_index.proofs.Zipped.{left_first, left_next, zip_next}
use Rattle.version_index.proofs.index.note_all.Goals as goal

-- the column is as it was
pub note-requires : goal.note-requires
note-requires c =
    let old = c.args.columns.now.items in
    let index = c.loop-column.column-index in
    let below = subst (λ xs. index < length xs) c.deref_mut-column-items.ensures.value c.loop-column-test.true in
    subst (IsReady c.args.slot (option_copied c.args.found) c.args.write.now) (sym (left_first old c.loop-column.column-items index c.column-item.result c.loop-column.invariant.1)) (c.requires index c.column-item.result below)

pub loop-column-preserved : goal.loop-column-preserved
loop-column-preserved c =
    let old = c.args.columns.now.items in
    let Noted = IsNotedIn c.args.slot (option_copied c.args.found) c.args.write.now c.args.number in
    let items = c.loop-column.column-items in
    let index = c.loop-column.column-index in
    let left = c.loop-column.invariant.1 in
    let new = c.note.new.self in
    let same = c.loop-column.auto.column-items in
    let lent = c.loop-column-test.true in
    let below : index < length items = omega (arith, same, lent) in
    let noted = subst (λ column. Noted column new) (left_first old items index c.column-item.result left) c.note.ensures in
    let next : suc index ≡ index + 1 = omega arith in (
      subst (λ n. AllZip Noted (take n old) (take n (slice_set items index new))) next (zip_next Noted old items index new c.column-item.result c.loop-column.invariant.0 left below noted),
      subst (λ n. drop n (slice_set items index new) ≡ drop n old) next (left_next old items index new left below),
    )
