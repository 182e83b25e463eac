-- Proofs that a write stands among others, whose number and order a head binds.
use Rattle.canon_code.specs.Writes.{write_code}
use Rattle.merkle_proof.specs.Head.{IsProof, audit_path, claimed, head}
use Rattle.merkle_proof.specs.Shape.{levels, shape, turns}
use Rattle.merkle_proof.specs.declared.proof.Proof.{Proof}
use Rattle.merkle_proof.specs.declared.explaining.Verdict.{Verdict}
use Rattle.merkle_proof.specs.declared.explaining.Verdict.TheVariants as verdict
use Rattle.rel_base.specs.declared.access.Placed.{Placed}
use Rattle.sha2.specs.Sha256.{sha256}
use Rattle.std.specs.Prelude.{Bool, List, Some, [], get_or, length, map, nat_le, reverse, slice_get, ℕ, ◌&&◌, ◌-◌, ◌==◌, ◌≡◌, ◌≢◌}
use Rattle.std.specs.Str.{bytes_eq}

-- the leaves of a tree over writes are their codes
abbrev pub leaves_of : List Placed → List (List ℕ)
leaves_of writes = map write_code writes

abbrev pub head_of : List Placed → List ℕ
head_of writes = head sha256 (leaves_of writes)

-- the proof of the write with an index from 1
abbrev pub proof_of : List Placed → ℕ → Proof
proof_of writes index = record { count = length writes; index = index; path = audit_path sha256 (leaves_of writes) (index - 1) }

-- a proof leads from a write to a head
abbrev pub IsVerified : List ℕ → Placed → Proof → Type 0
IsVerified top write proof = IsProof sha256 top (write_code write) proof.count proof.index proof.path

-- the same as a test
abbrev pub is_verified : List ℕ → Placed → Proof → Bool
is_verified top write proof =
    nat_le 1 proof.index && (nat_le proof.index proof.count
    && (length proof.path == length (turns (shape levels proof.count) (proof.index - 1)) && bytes_eq (claimed sha256 proof.count (proof.index - 1) (reverse proof.path) (write_code write)) top))

-- the write stands at the index of a proof, among as many as it says
pub record IsMember (writes : List Placed) (write : Placed) (proof : Proof) : Type 0 where
  pub count : proof.count ≡ length writes
  pub stands : slice_get writes (proof.index - 1) ≡ Some write

-- the same of codes
pub record IsCodeAt (codes : List (List ℕ)) (code : List ℕ) (proof : Proof) : Type 0 where
  pub count : proof.count ≡ length codes
  pub stands : code ≡ get_or codes (proof.index - 1) []

-- two inputs that differ and have one SHA-256
abbrev pub Collides : List ℕ → List ℕ → Type 0
Collides left right = (left ≢ right) × (sha256 left ≡ sha256 right)

-- a member, or else two inputs with one hash
abbrev pub Explains : List Placed → Placed → Proof → Verdict → Type 0
Explains writes write proof verdict.Member = IsMember writes write proof
Explains writes write proof (verdict.Collision left right) = (IsMember writes write proof → ⊥) × Collides left right
