use Rattle.std.proofs.Common.{arith, length, rules, ◌∙◌, ◌≡◌}
use Rattle.block_work.proofs.Consistent.{after_commit, all_above, fewer, into_among, out_among}
use Rattle.block_work.proofs.block.BlockInWork.commit.Goals as goal

pub add_reserved-requires-clause-above : goal.add_reserved-requires-clause-above
add_reserved-requires-clause-above c = all_above c.requires.can.0 c.args.self.now _ c.requires.can.1.consistent (search rules)

pub add_reserved-requires-clause-out : goal.add_reserved-requires-clause-out
add_reserved-requires-clause-out c = out_among c.requires.can.0 c.args.self.now c.args.ran c.args.edges.now c.requires.can.1.consistent c.requires.can.1.own.out

pub add_reserved-requires-clause-into : goal.add_reserved-requires-clause-into
add_reserved-requires-clause-into c = into_among c.requires.can.0 c.args.self.now c.args.ran c.args.edges.now c.requires.can.1.consistent c.requires.can.1.own.into

pub add-requires-clause-few : goal.add-requires-clause-few
add-requires-clause-few c =
    let count = fewer c.requires.can.0 0 (length c.args.self.now.outcomes.items) c.args.self.now.committed.items c.requires.can.1.consistent.committed in
    omega (arith, count, c.requires.few)

pub returns-clause-consistent : goal.returns-clause-consistent
returns-clause-consistent c =
    let number : length c.args.self.now.committed.items ≡ c.len-number.result = search rules in
    λ tables can.
    after_commit tables c.args.self.now _ can.consistent c.args.id _ c.args.ran c.args.edges.now can (search rules) c.push_reserved-2.ensures.items c.push_reserved.ensures.items
    (λ all at same. c.add.ensures all at (same ∙ number)) c.add_reserved.ensures.positions c.add_reserved.ensures.edges
