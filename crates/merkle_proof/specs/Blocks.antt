-- What is proved of the results of blocks, and what is asked of a file.
use Rattle.merkle_proof.specs.ProofFiles.{proof_file, proof_in}
use Rattle.merkle_proof.specs.Proofs.{head_of, is_verified, proof_of}
use Rattle.merkle_proof.specs.declared.proof.Proof.{Proof}
use Rattle.node_model.specs.declared.result.BlockResult.{BlockResult}
use Rattle.rel_base.specs.declared.access.Placed.{Placed}
use Rattle.std.specs.Option.{option_and_then, option_map}
use Rattle.std.specs.Prelude.{Bool, Err, List, None, Ok, Option, Result, map, slice_get, suc, zero, ℕ}

-- the heads of the writes of blocks, block by block
abbrev pub heads_of : List BlockResult → List (List ℕ)
heads_of results = map (λ block. head_of block.writes) results

-- the item of a number from 1
abbrev pub numbered : {A : Type 0} → List A → ℕ → Option A
numbered items zero = None
numbered items (suc before) = slice_get items before

-- the proof file of the write of a number among those of a block, both from 1; none where there is no such write
abbrev pub proof_of_block : List Placed → ℕ → Option (List ℕ)
proof_of_block writes number = option_map (λ write. proof_file write (proof_of writes number)) (numbered writes number)

-- the same of a block of a number, from 1
abbrev pub proof_of_write : List BlockResult → ℕ → ℕ → Option (List ℕ)
proof_of_write results block number = option_and_then (λ result. proof_of_block result.writes number) (numbered results block)

-- whether the proof that a file says leads from its write to a head; or its first bad line
abbrev pub verified_of : List ℕ → Result (Placed × Proof) ℕ → Result Bool ℕ
verified_of top (Err line) = Err line
verified_of top (Ok found) = Ok (is_verified top found.0 found.1)

abbrev pub verified_in : List ℕ → List ℕ → Result Bool ℕ
verified_in top bytes = verified_of top (proof_in bytes)
