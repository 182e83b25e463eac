use Rattle.std.proofs.Common.{◌≡◌, ◌++◌, drop, take}
use Rattle.std.specs.List.{flat_map}
use Rattle.std.specs.Prelude.{All}
use Rattle.hex_digits.specs.Laws.{IsHash}
use Rattle.merkle_proof.specs.ProofFiles.{step_text}
use Rattle.merkle_proof.proofs.writing.push_steps.Given as goal

abbrev pub invariant-loop-step : goal.invariant-loop-step
invariant-loop-step l = record {
  lines : l.out.items ++ flat_map step_text (drop l.step-index l.steps) ≡ l.fn.out.items ++ flat_map step_text l.steps;
  sound : All IsHash (take l.step-index l.steps);
}
