use Rattle.std.proofs.Common.{◌≡◌, ◌∙◌, ◌+◌, ◌<◌, ◌≤◌, All, arith, length, subst, suc, slice_set, sym, take}
use Rattle.std.specs.List.{AllZip}
use Rattle.std.specs.Option.{option_copied}
use Rattle.std.proofs.lemmas.List.{take_all}
use Rattle.std.proofs.lemmas.List.Elements.{All-nil}
use Rattle.version_index.specs.Columns.{AreListed, IsReady, IsSameColumn}
use Rattle.version_index.proofs.Cells.{same_column, same_twice}
use Rattle.version_index.proofs.Touching.{all_zip}
use Rattle.version_index.proofs.Zipped.{all_set_next, lent_whole, zip_length, zip_same, zip_set}
use Rattle.version_index.proofs.index.hold_all.Goals as goal

-- the places of the column are those of before
pub hold-requires : goal.hold-requires
hold-requires c =
    let old = c.args.columns.now.items in
    let items = c.loop-column.column-items in
    let index = c.loop-column.column-index in
    let count = zip_length IsSameColumn old items c.loop-column.invariant.0 in
    let below = subst (λ xs. index < length xs) c.deref_mut-column-items.ensures.value c.loop-column-test.true in
    record { listed = all_zip (λ column. AreListed column.touched) (λ column. AreListed column.touched) IsSameColumn (λ one two are same. same.listed are) old items c.requires.listed c.loop-column.invariant.0 index c.column-item.result (omega (arith, count, below)) }

pub loop-column-init : goal.loop-column-init
loop-column-init c = (
  subst (AllZip IsSameColumn c.args.columns.now.items) (sym c.deref_mut-column-items.ensures.value) (zip_same IsSameColumn same_column c.args.columns.now.items),
  All-nil (IsReady c.args.slot (option_copied c.args.found) c.args.write.now),
)

-- the columns so far were held, and this one tells the same though memory is wanting
pub returns-in_err-hold-clause-same : goal.returns-in_err-hold-clause-same
returns-in_err-hold-clause-same c =
    let old = c.args.columns.now.items in
    let lent = c.deref_mut-column-items.ensures.value in
    let same = zip_set IsSameColumn same_twice old c.loop-column.column-items c.loop-column.column-index c.hold.new.self c.column-item.result c.loop-column.invariant.0 c.hold.ensures.same in
    let count = subst (λ xs. length xs ≡ c.args.columns.now.len) lent c.deref_mut-column-items.ensures.len in
    subst (AllZip IsSameColumn old) (sym (lent_whole c.args.columns.now.len old (slice_set c.loop-column.column-items c.loop-column.column-index c.hold.new.self) count (zip_length IsSameColumn old (slice_set c.loop-column.column-items c.loop-column.column-index c.hold.new.self) same ∙ count))) same

pub loop-column-preserved : goal.loop-column-preserved
loop-column-preserved c =
    let old = c.args.columns.now.items in
    let Ready = IsReady c.args.slot (option_copied c.args.found) c.args.write.now in
    let items = c.loop-column.column-items in
    let index = c.loop-column.column-index in
    let count = zip_length IsSameColumn old items c.loop-column.invariant.0 in
    let below = subst (λ xs. index < length xs) c.deref_mut-column-items.ensures.value c.loop-column-test.true in
    let next : suc index ≡ index + 1 = omega arith in (
      zip_set IsSameColumn same_twice old items index c.hold.new.self c.column-item.result c.loop-column.invariant.0 c.hold.ensures.same,
      subst (λ n. All Ready (take n (slice_set items index c.hold.new.self))) next (all_set_next Ready items index c.hold.new.self c.loop-column.invariant.1 c.in_ok-hold.ensures.ready (omega (arith, count, below))),
    )

pub returns-clause-ready : goal.returns-clause-ready
returns-clause-ready c =
    let old = c.args.columns.now.items in
    let Ready = IsReady c.args.slot (option_copied c.args.found) c.args.write.now in
    let items = c.loop-column.column-items in
    let lent = c.deref_mut-column-items.ensures.value in
    let same = zip_length IsSameColumn old items c.loop-column.invariant.0 in
    let count = subst (λ xs. length xs ≡ c.args.columns.now.len) lent c.deref_mut-column-items.ensures.len in
    let past = subst (λ xs. length xs ≤ c.loop-column.column-index) lent c.loop-column-test.false in
    subst (All Ready) (sym (lent_whole c.args.columns.now.len old items count (same ∙ count)))
    (subst (All Ready) (take_all c.loop-column.column-index items (omega (arith, past, same))) c.loop-column.invariant.1)
