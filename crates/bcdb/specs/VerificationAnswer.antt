-- What is answered to a proof and a head.
use Rattle.std.specs.Prelude.{Bool, Err, List, Ok, Result, codes, cond, length, nat_le, ℕ}
use Rattle.bcdb.specs.ProgramAnswer.{ProgramAnswer, says}
use Rattle.bcdb.specs.Refusals.{proof_refusal}
use Rattle.bcdb.specs.declared.status.Status.TheVariants.{Done, ProofRefused}
use Rattle.merkle_proof.specs.Blocks.{verified_of}
use Rattle.merkle_proof.specs.ProofFiles.{proof_in}
use Rattle.merkle_proof.specs.declared.proof.Proof.{Proof}
use Rattle.rel_base.specs.declared.access.Placed.{Placed}

-- the write and the proof of a file, or the number of its first bad line; that of a file of more than 262,144 bytes is 0
abbrev pub proof_read : List ℕ → Result (Placed × Proof) ℕ
proof_read bytes = cond (nat_le (length bytes) 262144) (proof_in bytes) (Err 0)

abbrev pub shown_text : Bool → List ℕ
shown_text shown = cond shown (codes "yes\n") (codes "no\n")

-- whether the write is shown, or in which line the file is refused
abbrev pub over_shown : Result Bool ℕ → ProgramAnswer
over_shown (Err line) = says ProofRefused (proof_refusal line)
over_shown (Ok shown) = says Done (shown_text shown)

abbrev pub over_verification : (head : List ℕ) → List ℕ → ProgramAnswer
over_verification head bytes = over_shown (verified_of head (proof_read bytes))
