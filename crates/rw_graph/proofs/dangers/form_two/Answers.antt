use Rattle.std.proofs.Common.{arith, refl, rules, sym, ◌+◌, ◌≤◌}
use Rattle.rw_graph.proofs.Forms.{no_two_left, none_first, none_next, two_pair_at}
use Rattle.rw_graph.proofs.dangers.form_two.Goals as goal
use Rattle.rw_graph.specs.Graph.{has_edge}
use Rattle.rw_graph.specs.Held.{holds}

pub loop-y-init : goal.loop-y-init
loop-y-init c =
    (none_first c.args.set.now.positions.items c.args.set.now.rising (has_edge c.args.set.now) (holds c.args.edges.now.out) (holds c.args.edges.now.into) refl, omega arith)

pub loop-y-preserved : goal.loop-y-preserved
loop-y-preserved c =
    let upto : c.in-Some.y ≤ 1024 = search rules in (
      none_next c.args.set.now.positions.items c.args.set.now.rising (has_edge c.args.set.now) (holds c.args.edges.now.out) (holds c.args.edges.now.into)
          (c.loop-y.last + 1) c.in-Some.y c.loop-y.invariant.0 c.in-Some.ensures.least (sym c.in_default-before.ensures),
      upto,
    )

pub returns-in-Some-before : goal.returns-in-Some-before
returns-in-Some-before c =
    sym (two_pair_at c.args.set.now.positions.items c.args.set.now.rising (has_edge c.args.set.now) (holds c.args.edges.now.out) (holds c.args.edges.now.into)
    (c.loop-y.last + 1) c.in-Some.y c.in-Some-before.z c.loop-y.invariant.0 c.requires c.in-Some.ensures.least (sym c.in-Some-before.ensures))

pub returns : goal.returns
returns c =
    sym (no_two_left c.args.set.now.positions.items c.args.set.now.rising (has_edge c.args.set.now) (holds c.args.edges.now.out) (holds c.args.edges.now.into)
    (c.loop-y.last + 1) c.loop-y.invariant.0 c.in_default.ensures.least)
