use Rattle.std.proofs.Common.{ap, arith, length, subst, suc, ◌-◌, ◌∙◌, ◌≡◌, ◌≤◌}
use Rattle.node_core.proofs.Dropped_rows.{Drops, drops_begin, drops_below, drops_on}
use Rattle.node_core.proofs.Walks.{links_all}
use Rattle.node_core.specs.Over.{drop_open}
use Rattle.node_core.proofs.dropping.drop_id.Goals as goal

pub loop-number-init : goal.loop-number-init
loop-number-init c = drops_begin c.args.id.now c.args.rows.now.items c.args.index.now c.newest-number.result c.requires c.newest-number.ensures

pub older-number-requires : goal.older-number-requires
older-number-requires c =
    let all : length c.args.index.now.older.items ≡ length c.args.rows.now.items = links_all c.args.rows.now.items c.args.index.now c.requires in
    omega (arith, all, c.loop-number.invariant.within, c.loop-number-test.true)

pub loop-number-smaller : goal.loop-number-smaller
loop-number-smaller c =
    let at : c.loop-number.number ≡ suc (c.loop-number.number - 1) = omega (arith, c.loop-number-test.true) in
    let below : c.older-number.result ≤ c.loop-number.number - 1 =
    drops_below c.args.id.now c.args.rows.now.items c.loop-number.rows.items c.args.index.now (c.loop-number.number - 1) c.older-number.result c.requires
    (subst (Drops c.args.id.now c.args.rows.now.items c.loop-number.rows.items) at c.loop-number.invariant) c.older-number.ensures in
    omega (arith, at, below)

pub loop-number-preserved : goal.loop-number-preserved
loop-number-preserved c =
    let at : c.loop-number.number ≡ suc (c.loop-number.number - 1) = omega (arith, c.loop-number-test.true) in
    drops_on c.args.id.now c.args.rows.now.items c.loop-number.rows.items c.args.index.now (c.loop-number.number - 1) c.older-number.result c.drop_open.new.row c.index_mut.result.now c.requires
    (subst (Drops c.args.id.now c.args.rows.now.items c.loop-number.rows.items) at c.loop-number.invariant) c.older-number.ensures (c.drop_open.ensures ∙ ap drop_open c.index_mut.ensures.value)
