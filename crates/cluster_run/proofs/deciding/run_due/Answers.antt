use Rattle.std.proofs.Common.{None, rules, ◌∙◌}
use Rattle.cluster_run.proofs.Following.{blocks_self, blocks_then, comes_then, comes_self, stands_then}
use Rattle.cluster_run.proofs.deciding.run_due.Goals as goal

pub loop-init : goal.loop-init
loop-init g c = (comes_self c.args.pass.now None c.requires.stands.no_turn c.requires.stands.hand, blocks_self c.args.pass.now)

pub run_one-requires-clause-stands : goal.run_one-requires-clause-stands
run_one-requires-clause-stands g c κs within = stands_then c.requires.stands c.loop.invariant.0

pub commit_next-requires-clause-stands : goal.commit_next-requires-clause-stands
commit_next-requires-clause-stands g c = stands_then (stands_then c.requires.stands c.loop.invariant.0) c.run_one.ensures.comes

pub commit_next-requires-clause-processor : goal.commit_next-requires-clause-processor
commit_next-requires-clause-processor g c = c.run_one.ensures.comes.same.same_number ∙ (c.loop.invariant.0.same.same_number ∙ c.requires.processor)

pub returns-in_err-run_one-clause-comes : goal.returns-in_err-run_one-clause-comes
returns-in_err-run_one-clause-comes g c = comes_then c.loop.invariant.0 c.run_one.ensures.comes

pub returns-in_err-run_one-clause-blocks : goal.returns-in_err-run_one-clause-blocks
returns-in_err-run_one-clause-blocks g c = blocks_then c.loop.invariant.1 (c.run_one.ensures.blocks (c.loop.invariant.0.same.same_number ∙ c.requires.processor))

pub returns-then-not-branch-clause-comes : goal.returns-then-not-branch-clause-comes
returns-then-not-branch-clause-comes g c = comes_then c.loop.invariant.0 c.run_one.ensures.comes

pub returns-then-not-branch-clause-blocks : goal.returns-then-not-branch-clause-blocks
returns-then-not-branch-clause-blocks g c = blocks_then c.loop.invariant.1 (c.run_one.ensures.blocks (c.loop.invariant.0.same.same_number ∙ c.requires.processor))

pub returns-then-not-branch-clause-none : goal.returns-then-not-branch-clause-none
returns-then-not-branch-clause-none g c = search rules

pub returns-in_err-commit_next-clause-comes : goal.returns-in_err-commit_next-clause-comes
returns-in_err-commit_next-clause-comes g c = comes_then c.loop.invariant.0 (comes_then c.run_one.ensures.comes c.commit_next.ensures.comes)

pub returns-in_err-commit_next-clause-blocks : goal.returns-in_err-commit_next-clause-blocks
returns-in_err-commit_next-clause-blocks g c =
    blocks_then c.loop.invariant.1 (blocks_then (c.run_one.ensures.blocks (c.loop.invariant.0.same.same_number ∙ c.requires.processor)) c.commit_next.ensures.blocks)

pub loop-preserved : goal.loop-preserved
loop-preserved g c = (
  comes_then c.loop.invariant.0 (comes_then c.run_one.ensures.comes c.commit_next.ensures.comes),
  blocks_then c.loop.invariant.1 (blocks_then (c.run_one.ensures.blocks (c.loop.invariant.0.same.same_number ∙ c.requires.processor)) c.commit_next.ensures.blocks),
)
