use Rattle.std.proofs.Common.{IfSome, Option, false, rules, subst, true, ◌≡◌}
use Rattle.std.specs.Option.{is_some}
use Rattle.node_core.specs.Answers.{claimed_as}
use Rattle.node_core.specs.Core.{IsHeld, Steps}
use Rattle.node_core.specs.Hands.{IsClaimed}
use Rattle.node_core.specs.InHand.{InHand}
use Rattle.node_model.specs.Steps.{ToClaim}
use Rattle.schedule_sim.proofs.Taken.{claim_busy, claim_hands, claim_may, claim_takes}
use Rattle.schedule_sim.specs.InHands.{hand_of}
use Rattle.schedule_sim.proofs.simulation.SimulatedNode.claim.Goals as goal

pub returns-then-holds-clause-takes : goal.returns-then-holds-clause-takes
returns-then-holds-clause-takes g c =
    let busy : is_some (hand_of c.args.self.now.hands c.args.actor) ≡ true = search rules in
    claim_busy c.args.self.now.node c.args.actor c.args.pick c.args.self.now.hands c.requires.actor c.requires.hands busy

pub claim-requires : goal.claim-requires
claim-requires g c =
    let idle : is_some (hand_of c.args.self.now.hands c.args.actor) ≡ false = search rules in
    record { free = claim_may c.args.self.now.node c.args.actor c.args.pick c.args.self.now.hands c.requires.actor c.requires.hands idle }

pub returns-in-Some-clause-takes : goal.returns-in-Some-clause-takes
returns-in-Some-clause-takes g c =
    let idle : is_some (hand_of c.args.self.now.hands c.args.actor) ≡ false = search rules in
    claim_takes c.args.self.now.node c.claim.new.self c.args.actor c.args.pick _ c.args.self.now.hands c.requires.actor c.requires.hands idle c.in_ok-claim.ensures.step

pub returns-in-Some-clause-hands : goal.returns-in-Some-clause-hands
returns-in-Some-clause-hands g c =
    let idle : is_some (hand_of c.args.self.now.hands c.args.actor) ≡ false = search rules in
    let step = subst (λ (got : Option InHand). Steps c.args.self.now.node c.args.actor (ToClaim c.args.pick) (claimed_as got) c.claim.new.self) c.in-Some.is c.in_ok-claim.ensures.step in
    let held = subst (λ (got : Option InHand). IfSome got (IsHeld c.claim.new.self)) c.in-Some.is c.in_ok-claim.ensures.held in
    let fresh = subst (λ (got : Option InHand). IfSome got (IsClaimed c.args.actor)) c.in-Some.is c.in_ok-claim.ensures.fresh in
    claim_hands c.args.self.now.node c.claim.new.self c.args.actor c.args.pick c.args.self.now.hands c.requires.actor c.requires.hands idle c.in-Some.work c.put_job.new.hands step held fresh c.put_job.ensures
