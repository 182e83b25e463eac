use Rattle.std.proofs.Common.{◌≡◌, ◌≤◌, ◌++◌, List, ℕ, length, ap, subst, sym, ◌∙◌, ◌-◌}
use Rattle.std.specs.Prelude.{reverse}
use Rattle.std.proofs.lemmas.List.{length-map}
use Rattle.sha2.specs.Sha256.{sha256}
use Rattle.canon_code.specs.Writes.{write_code}
use Rattle.merkle_proof.specs.Head.{audit_path}
use Rattle.merkle_proof.specs.Proofs.{IsVerified, head_of, leaves_of, proof_of}
use Rattle.merkle_proof.specs.Shape.{levels, shape}
use Rattle.merkle_proof.specs.Tree.{path}
use Rattle.merkle_proof.proofs.Heads.{audit_short}
use Rattle.merkle_proof.proofs.Member.{member_verified}
use Rattle.merkle_proof.proofs.proving.prove.Goals as goal

-- the path that was made is that of the proof
made : (c : goal.After-len-count) → c.push_path.new.steps ≡ audit_path sha256 (leaves_of c.args.writes.now) (c.args.index - 1)
made c =
    c.in_ok-push_path.ensures
    ∙ ap (λ front. front ++ reverse (path sha256 (shape c.most_levels.result (length c.as_slice.result.now)) (leaves_of c.as_slice.result.now) (c.args.index - 1))) c.new-path.ensures
    ∙ ap (λ k. reverse (path sha256 (shape k (length c.as_slice.result.now)) (leaves_of c.as_slice.result.now) (c.args.index - 1))) c.most_levels.ensures.same
    ∙ ap (λ writes. reverse (path sha256 (shape levels (length writes)) (leaves_of writes) (c.args.index - 1))) c.as_slice.ensures
    ∙ ap (λ n. reverse (path sha256 (shape levels n) (leaves_of c.args.writes.now) (c.args.index - 1))) (sym (length-map c.args.writes.now write_code))

proof : (c : goal.After-len-count) → record { count = c.len-count.result; index = c.args.index; path = c.push_path.new.steps } ≡ proof_of c.args.writes.now c.args.index
proof c =
    ap (λ (n : ℕ). record { count = n; index = c.args.index; path = c.push_path.new.steps }) c.len-count.ensures
    ∙ ap (λ (steps : List (List ℕ)). record { count = length c.args.writes.now; index = c.args.index; path = steps }) (made c)

pub returns-clause-proof : goal.returns-clause-proof
returns-clause-proof c = proof c

pub returns-clause-short : goal.returns-clause-short
returns-clause-short c = subst (λ (steps : List (List ℕ)). length steps ≤ 32) (sym (made c)) (audit_short sha256 (leaves_of c.args.writes.now) (c.args.index - 1))

pub returns-clause-verified : goal.returns-clause-verified
returns-clause-verified c =
    λ write found. subst (IsVerified (head_of c.args.writes.now) write) (sym (proof c))
    (member_verified c.args.writes.now c.args.index c.requires.from_one c.requires.within c.requires.few write found)
