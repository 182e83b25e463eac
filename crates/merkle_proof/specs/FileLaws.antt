-- What is written into a proof file is read back, and what is read was written so.
use Rattle.canon_code.specs.Writes.{HasWriteCode}
use Rattle.hex_digits.specs.Laws.{IsHash}
use Rattle.merkle_proof.specs.ProofFiles.{proof_file, proof_in}
use Rattle.merkle_proof.specs.declared.proof.Proof.{Proof}
use Rattle.rel_base.specs.declared.access.Placed.{Placed}
use Rattle.std.specs.List.{AllByRecursion}
use Rattle.std.specs.Prelude.{List, Ok, length, ◌<◌, ◌^◌, ◌≡◌, ◌≤◌, ℕ}

-- what a file can say: a write that has a code, an index from 1 to the count, and at most 32 steps
pub record HasFile (write : Placed) (proof : Proof) : Type 0 where
  pub code : HasWriteCode write
  pub from_one : 1 ≤ proof.index
  pub within : proof.index ≤ proof.count
  pub few : proof.count < 2 ^ 32
  pub short : length proof.path ≤ 32
  pub hashes : AllByRecursion IsHash proof.path

abbrev pub ProofsComeBack : Type 0
ProofsComeBack = (write : Placed) (proof : Proof) → HasFile write proof → proof_in (proof_file write proof) ≡ Ok (write, proof)

-- a file that is read is the file of what it says, each byte of it, and says what a file can say
abbrev pub ProofsHaveOneFile : Type 0
ProofsHaveOneFile = (bytes : List ℕ) (write : Placed) (proof : Proof) → proof_in bytes ≡ Ok (write, proof) → HasFile write proof × (bytes ≡ proof_file write proof)
