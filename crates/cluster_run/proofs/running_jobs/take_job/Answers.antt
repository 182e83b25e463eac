use Rattle.cluster_run.proofs.Calls.{claim_blocks, claim_leaves, claim_takes}
use Rattle.cluster_run.proofs.Hands.{may_claim}
use Rattle.cluster_run.proofs.Made.{keeps}
use Rattle.cluster_run.specs.Standing.{state_seen}
use Rattle.node_core.specs.Answers.{claimed_as}
use Rattle.node_model.specs.Steps.{ToClaim}
use Rattle.turn_lock.specs.Passes.{pass_number}
use Rattle.cluster_run.proofs.running_jobs.take_job.Goals as goal

pub claim-requires-clause-free : goal.claim-requires-clause-free
claim-requires-clause-free g c = may_claim (state_seen c.args.pass.now) (pass_number c.args.pass.now) c.requires.stands.hand.none

pub returns-clause-comes : goal.returns-clause-comes
returns-clause-comes g c = record {
  same = c.claim.ensures.same;
  no_turn = c.claim.ensures.no_turn;
  hand = claim_leaves c.args.pass.now c.claim.new.pass c.claim.ensures.same c.args.pick c.claim.result c.requires.stands.hand c.claim.ensures.turn c.claim.ensures.held c.claim.ensures.fresh c.claim.ensures.err;
  entries = keeps c.args.pass.now c.claim.new.pass c.claim.result (ToClaim c.args.pick) claimed_as c.claim.ensures.turn c.claim.ensures.err;
}

pub returns-clause-blocks : goal.returns-clause-blocks
returns-clause-blocks g c = claim_blocks c.args.pass.now c.claim.new.pass c.claim.ensures.same c.args.pick c.claim.result c.requires.stands.hand c.claim.ensures.turn c.claim.ensures.err

pub returns-clause-takes : goal.returns-clause-takes
returns-clause-takes g c = claim_takes c.args.pass.now c.claim.new.pass c.claim.ensures.same c.args.pick c.claim.result c.requires.stands.hand c.claim.ensures.turn
