use Rattle.std.proofs.Common.{arith}
use Rattle.std.proofs.lemmas.Grind.{common_steps}
use Rattle.std.proofs.Common.{rules, ◌++◌, ◌∙◌}
use Rattle.std.specs.Vec.Iter.{into_iter_items}
use Rattle.block_work.proofs.Applied.{one_applied}
use Rattle.block_work.proofs.chain.apply_all.Goals as goal
use Rattle.block_work.specs.Chain.{stamps}

pub loop-done-preserved : goal.loop-done-preserved
loop-done-preserved g c =
    let before = c.loop-done.invariant in
    let after = one_applied (g.V.Versions.tables c.loop-done.versions) (g.V.Versions.tables c.apply.new.self) c.args.number c.loop-done.last 1024
    (g.V.Versions.spare c.loop-done.versions) (g.V.Versions.spare c.apply.new.self)
    (g.V.Versions.history c.loop-done.versions) (g.V.Versions.history c.apply.new.self) (g.V.Versions.history c.args.versions.now ++ stamps c.args.number c.args.committed.items)
    c.in-Some.done (into_iter_items c.loop-done.done-iterator) (into_iter_items c.next.new.self) before.1 before.2 before.3 before.4 (search rules) c.apply.ensures.tables c.apply.ensures.history c.apply.ensures.room in
    (c.apply.ensures.tables ∙ before.0, after.0, after.1, after.2, after.3)

pub apply-requires-clause-room : goal.apply-requires-clause-room
apply-requires-clause-room g c = grind (arith, common_steps)

pub returns-clause-history : goal.returns-clause-history
returns-clause-history g c = grind (arith, common_steps)
