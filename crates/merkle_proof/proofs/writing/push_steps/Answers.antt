use Rattle.std.proofs.Common.{[], ◌≤◌, ◌<◌, ◌+◌, ◌++◌, ◌∙◌, ap, append_assoc, arith, drop, get_or, length, subst, sym}
use Rattle.std.specs.List.{flat_map}
use Rattle.std.specs.Prelude.{All}
use Rattle.std.proofs.lemmas.List.{drop_more, take_all}
use Rattle.std.proofs.lemmas.List.Elements.{All-more}
use Rattle.hex_digits.specs.Laws.{IsHash}
use Rattle.merkle_proof.specs.ProofFiles.{step_text}
use Rattle.merkle_proof.proofs.writing.push_steps.Goals as goal

pub loop-step-preserved : goal.loop-step-preserved
loop-step-preserved c =
    let inside : c.loop-step.step-index < length c.args.steps.now = omega arith in record {
      lines =
          ap (λ front. front ++ flat_map step_text (drop (c.loop-step.step-index + 1) c.args.steps.now)) c.in_ok-push_step.ensures.line
          ∙ append_assoc c.loop-step.out.items (step_text (get_or c.args.steps.now c.loop-step.step-index [])) (flat_map step_text (drop (c.loop-step.step-index + 1) c.args.steps.now))
          ∙ ap (λ rest. c.loop-step.out.items ++ flat_map step_text rest) (sym (drop_more c.args.steps.now c.loop-step.step-index [] inside)) ∙ c.loop-step.invariant.lines;
      sound = All-more IsHash c.args.steps.now c.loop-step.step-index [] inside c.loop-step.invariant.sound c.push_step.ensures.sound;
    }

pub returns-clause-sound : goal.returns-clause-sound
returns-clause-sound c =
    let whole : length c.args.steps.now ≤ c.loop-step.step-index = omega arith in
    subst (All IsHash) (take_all c.loop-step.step-index c.args.steps.now whole) c.loop-step.invariant.sound
