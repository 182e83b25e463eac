use Rattle.std.proofs.Common.{Some, arith, length, slice_get, subst, suc, ◌+◌, ◌-◌, ◌≡◌, ◌≤◌, ap, sym, ◌∙◌, cond}
use Rattle.node_core.proofs.Walks.{Walks, here_of, link_below, links_all, walk_begins, walk_on}
use Rattle.node_core.specs.Rows.{row_is_for}
use Rattle.node_core.proofs.lookup.find_number.Goals as goal

pub loop-number-init : goal.loop-number-init
loop-number-init c = walk_begins c.args.tx.now c.args.rows.now c.args.index.now c.newest-number.result c.requires c.newest-number.ensures

pub older-number-requires : goal.older-number-requires
older-number-requires c =
    let all : length c.args.index.now.older.items ≡ length c.args.rows.now = links_all c.args.rows.now c.args.index.now c.requires in
    omega (arith, all, c.loop-number.invariant.within, c.loop-number-test.true)

pub loop-number-smaller : goal.loop-number-smaller
loop-number-smaller c =
    let at : c.loop-number.number ≡ suc (c.loop-number.number - 1) = omega (arith, c.loop-number-test.true) in
    let below : c.older-number.result ≤ c.loop-number.number - 1 =
    link_below c.args.tx.now c.args.rows.now c.args.index.now (c.loop-number.number - 1) c.loop-number.found c.older-number.result c.requires
    (subst (λ n. Walks c.args.tx.now c.args.rows.now n c.loop-number.found) at c.loop-number.invariant) c.older-number.ensures in
    omega (arith, at, below)

pub loop-number-preserved : goal.loop-number-preserved
loop-number-preserved c =
    let place = c.loop-number.number - 1 in
    let row = c.index-rows-place.result in
    let at : c.loop-number.number ≡ suc place = omega (arith, c.loop-number-test.true) in
    let here : slice_get c.args.rows.now place ≡ Some row = here_of c.args.rows.now place row row (omega (arith, at, c.loop-number.invariant.within)) c.index-rows-place.is in
    let next : 1 + place ≡ place + 1 = omega arith in
    let found : cond (row_is_for c.args.tx.now row) (Some (1 + place)) c.loop-number.found ≡ c.found_at-found.result =
    ap (λ n. cond (row_is_for c.args.tx.now row) (Some n) c.loop-number.found) next ∙ sym c.found_at-found.ensures in
    subst (Walks c.args.tx.now c.args.rows.now c.older-number.result) found
    (walk_on c.args.tx.now c.args.rows.now c.args.index.now place row c.loop-number.found c.older-number.result c.requires
    (subst (λ n. Walks c.args.tx.now c.args.rows.now n c.loop-number.found) at c.loop-number.invariant) here c.older-number.ensures)
