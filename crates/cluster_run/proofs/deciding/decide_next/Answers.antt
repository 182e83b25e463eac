use Rattle.std.proofs.Common.{inl, inr, rules, ◌∙◌}
use Rattle.cluster_run.proofs.Following.{blocks_then, comes_then, runs_look, stands_then}
use Rattle.node_model.specs.declared.journal.Pick.TheVariants.{Due, Nth}
use Rattle.cluster_run.proofs.deciding.decide_next.Goals as goal

pub run_due-requires-clause-stands : goal.run_due-requires-clause-stands
run_due-requires-clause-stands g c κs within = stands_then c.requires.stands c.commit_next.ensures.comes

pub run_one-requires-clause-stands : goal.run_one-requires-clause-stands
run_one-requires-clause-stands g c κs within = stands_then c.requires.stands c.commit_next.ensures.comes

pub returns-in_err-run_due-in-Ok-NotReady-default-None-clause-comes : goal.returns-in_err-run_due-in-Ok-NotReady-default-None-clause-comes
returns-in_err-run_due-in-Ok-NotReady-default-None-clause-comes g c = comes_then c.commit_next.ensures.comes c.run_due.ensures.comes

pub returns-in_err-run_due-in-Ok-NotReady-default-None-clause-blocks : goal.returns-in_err-run_due-in-Ok-NotReady-default-None-clause-blocks
returns-in_err-run_due-in-Ok-NotReady-default-None-clause-blocks g c = blocks_then c.commit_next.ensures.blocks c.run_due.ensures.blocks

pub returns-in_ok-run_due-in-Ok-NotReady-default-None-clause-comes : goal.returns-in_ok-run_due-in-Ok-NotReady-default-None-clause-comes
returns-in_ok-run_due-in-Ok-NotReady-default-None-clause-comes g c = comes_then c.commit_next.ensures.comes c.run_due.ensures.comes

pub returns-in_ok-run_due-in-Ok-NotReady-default-None-clause-blocks : goal.returns-in_ok-run_due-in-Ok-NotReady-default-None-clause-blocks
returns-in_ok-run_due-in-Ok-NotReady-default-None-clause-blocks g c = blocks_then c.commit_next.ensures.blocks c.run_due.ensures.blocks

pub returns-in_ok-run_due-in-Ok-NotReady-default-None-clause-looks : goal.returns-in_ok-run_due-in-Ok-NotReady-default-None-clause-looks
returns-in_ok-run_due-in-Ok-NotReady-default-None-clause-looks g c = inr (Due, c.in_ok-run_due-in-Ok-NotReady-default-None.ensures.none)

pub returns-in_err-run_one-in-Ok-NotReady-default-Some-clause-comes : goal.returns-in_err-run_one-in-Ok-NotReady-default-Some-clause-comes
returns-in_err-run_one-in-Ok-NotReady-default-Some-clause-comes g c = comes_then c.commit_next.ensures.comes c.run_one.ensures.comes

pub returns-in_err-run_one-in-Ok-NotReady-default-Some-clause-blocks : goal.returns-in_err-run_one-in-Ok-NotReady-default-Some-clause-blocks
returns-in_err-run_one-in-Ok-NotReady-default-Some-clause-blocks g c = blocks_then c.commit_next.ensures.blocks (c.run_one.ensures.blocks (c.commit_next.ensures.comes.same.same_number ∙ c.requires.processor))

pub returns-then-not-branch-clause-comes : goal.returns-then-not-branch-clause-comes
returns-then-not-branch-clause-comes g c = comes_then c.commit_next.ensures.comes c.run_one.ensures.comes

pub returns-then-not-branch-clause-blocks : goal.returns-then-not-branch-clause-blocks
returns-then-not-branch-clause-blocks g c = blocks_then c.commit_next.ensures.blocks (c.run_one.ensures.blocks (c.commit_next.ensures.comes.same.same_number ∙ c.requires.processor))

pub returns-then-not-branch-clause-looks : goal.returns-then-not-branch-clause-looks
returns-then-not-branch-clause-looks g c = runs_look c.args.pass.now c.commit_next.new.pass c.run_one.new.pass (Nth 0) c.commit_next.ensures.comes.entries c.in_ok-run_one-in-Ok-NotReady-default-Some.field-0 c.in_ok-run_one-in-Ok-NotReady-default-Some.ensures.runs

pub returns-else-not-branch-clause-comes : goal.returns-else-not-branch-clause-comes
returns-else-not-branch-clause-comes g c = comes_then c.commit_next.ensures.comes c.run_one.ensures.comes

pub returns-else-not-branch-clause-blocks : goal.returns-else-not-branch-clause-blocks
returns-else-not-branch-clause-blocks g c = blocks_then c.commit_next.ensures.blocks (c.run_one.ensures.blocks (c.commit_next.ensures.comes.same.same_number ∙ c.requires.processor))

pub returns-else-not-branch-clause-looks : goal.returns-else-not-branch-clause-looks
returns-else-not-branch-clause-looks g c = search (runs_look c.args.pass.now c.commit_next.new.pass c.run_one.new.pass (Nth 0) c.commit_next.ensures.comes.entries, rules)

pub returns-in-Ok-Outcome-clause-comes : goal.returns-in-Ok-Outcome-clause-comes
returns-in-Ok-Outcome-clause-comes g c = c.commit_next.ensures.comes

pub returns-in-Ok-Outcome-clause-blocks : goal.returns-in-Ok-Outcome-clause-blocks
returns-in-Ok-Outcome-clause-blocks g c = c.commit_next.ensures.blocks

pub returns-in-Ok-Outcome-clause-looks : goal.returns-in-Ok-Outcome-clause-looks
returns-in-Ok-Outcome-clause-looks g c = inl (search rules)

pub returns-in-Ok-AllDecided-clause-comes : goal.returns-in-Ok-AllDecided-clause-comes
returns-in-Ok-AllDecided-clause-comes g c = c.commit_next.ensures.comes

pub returns-in-Ok-AllDecided-clause-blocks : goal.returns-in-Ok-AllDecided-clause-blocks
returns-in-Ok-AllDecided-clause-blocks g c = c.commit_next.ensures.blocks

pub returns-in-Ok-AllDecided-2-clause-comes : goal.returns-in-Ok-AllDecided-2-clause-comes
returns-in-Ok-AllDecided-2-clause-comes g c = c.commit_next.ensures.comes

pub returns-in-Ok-AllDecided-2-clause-blocks : goal.returns-in-Ok-AllDecided-2-clause-blocks
returns-in-Ok-AllDecided-2-clause-blocks g c = c.commit_next.ensures.blocks

pub returns-in-Err-clause-comes : goal.returns-in-Err-clause-comes
returns-in-Err-clause-comes g c = c.commit_next.ensures.comes

pub returns-in-Err-clause-blocks : goal.returns-in-Err-clause-blocks
returns-in-Err-clause-blocks g c = c.commit_next.ensures.blocks
