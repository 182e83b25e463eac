-- What is answered to a proof and a head, by the bytes of the proof's file.
use Rattle.std.proofs.Common.{Bool, IfSome, List, None, Option, Some, cond, length, subst, sym, ◌<◌, ◌≡◌, ◌≤◌, ℕ}
use Rattle.std.proofs.lemmas.Bool.{le-leb, lt-leb}
use Rattle.std.specs.Prelude.{Err, Result}
use Rattle.bcdb.specs.ProgramAnswer.{says}
use Rattle.bcdb.specs.Refusals.{proof_refusal}
use Rattle.bcdb.specs.Reply.{Means}
use Rattle.bcdb.specs.VerificationAnswer.{over_shown, over_verification}
use Rattle.bcdb.specs.declared.reply.Reply.{Reply}
use Rattle.bcdb.specs.declared.status.Status.TheVariants.{ProofRefused}
use Rattle.edge_traits.specs.Shelf.{Files}
use Rattle.merkle_proof.specs.Blocks.{verified_in, verified_of}
use Rattle.merkle_proof.specs.ProofFiles.{proof_in}
use Rattle.merkle_proof.specs.declared.proof.Proof.{Proof}
use Rattle.rel_base.specs.declared.access.Placed.{Placed}

pub long_told : (told : Option Files) (name head : List ℕ) (reply : Reply) → IfSome told (λ files. 262144 < length (files name)) → Means (says ProofRefused (proof_refusal 0)) reply
    → IfSome told (λ files. Means (over_verification head (files name)) reply)
long_told None name head reply long means = tt
long_told (Some files) name head reply long means =
    subst (λ (b : Bool). Means (over_shown (verified_of head (cond {A = Result (Placed × Proof) ℕ} b (proof_in (files name)) (Err 0)))) reply) (sym (lt-leb (length (files name)) 262144 long)) means

pub short_told : (told : Option Files) (name head bytes : List ℕ) (reply : Reply) → IfSome told (λ files. bytes ≡ files name) → length bytes ≤ 262144 → Means (over_shown (verified_in head bytes)) reply
    → IfSome told (λ files. Means (over_verification head (files name)) reply)
short_told None name head bytes reply same short means = tt
short_told (Some files) name head bytes reply same short means =
    subst (λ found. Means (over_verification head found) reply) same
    (subst (λ (b : Bool). Means (over_shown (verified_of head (cond {A = Result (Placed × Proof) ℕ} b (proof_in bytes) (Err 0)))) reply) (sym (le-leb (length bytes) 262144 short)) means)
