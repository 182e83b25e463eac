use Rattle.std.proofs.Common.{arith, refl, rules, ◌≤◌}
use Rattle.rw_graph.proofs.Counted.{count_all, count_next, count_none}
use Rattle.rw_graph.proofs.bits.Bits.count.Goals as goal
use Rattle.rw_graph.specs.Held.{holds}

pub loop-pos-init : goal.loop-pos-init
loop-pos-init c = (λ list rising among. count_none (holds c.args.self.now) list refl, omega arith, omega arith)

pub loop-pos-preserved : goal.loop-pos-preserved
loop-pos-preserved c =
    let upto : c.in-Some.pos ≤ 1024 = search rules in
    let later = c.in-Some.ensures.least.0 in (
      λ list rising among. count_next (holds c.args.self.now) list rising among c.loop-pos.last c.in-Some.pos later c.in-Some.ensures.least.1 c.in-Some.ensures.least.2
          c.loop-pos.count (c.loop-pos.invariant.0 list rising among),
      omega (arith, later, c.loop-pos.invariant.1),
      upto,
    )

pub returns : goal.returns
returns c = λ list rising among.
    count_all (holds c.args.self.now) list c.loop-pos.last c.in_default.ensures.least c.loop-pos.count (c.loop-pos.invariant.0 list rising among)
