use Rattle.std.proofs.Common.{◌≡◌, ◌≤◌, length}
use Rattle.merkle_proof.specs.ProofFiles.{before, steps_from}
use Rattle.tx_text.specs.Parts.{parts_of}
use Rattle.merkle_proof.proofs.proof_files.read_steps.Given as goal

-- what is read, before what is left, is the whole
abbrev pub invariant-loop-line : goal.invariant-loop-line
invariant-loop-line l = (before l.steps (steps_from l.number (parts_of l.rest)) ≡ steps_from 5 (parts_of l.bytes)) × (l.number ≤ 37)

abbrev pub decreases-loop-line : goal.decreases-loop-line
decreases-loop-line l = length l.rest
