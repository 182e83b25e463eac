-- What the tests of a proof say.
use Rattle.std.proofs.Common.{◌≡◌, ◌≤◌, ℕ, List, Bool, true, length, sym, ◌∙◌, ap, subst}
use Rattle.std.specs.Bool.{Decides}
use Rattle.std.specs.Prelude.{IsTrue, nat_eq, nat_le, reverse, ◌-◌, ◌==◌, ◌↔◌}
use Rattle.std.specs.Str.{bytes_eq}
use Rattle.std.proofs.lemmas.Bool.{and_from, and_parts, eq-eqb, eqb-true, le-leb, leb-true}
use Rattle.std.proofs.lemmas.Bool.Decides.{same_from_decides}
use Rattle.canon_code.specs.Writes.{write_code}
use Rattle.rel_base.proofs.Bytes.{bytes_same, equal_bytes}
use Rattle.rel_base.specs.declared.access.Placed.{Placed}
use Rattle.sha2.specs.Sha256.{sha256}
use Rattle.merkle_proof.specs.Head.{IsPlaced, IsProof, claimed}
use Rattle.merkle_proof.specs.Proofs.{IsVerified, is_verified}
use Rattle.merkle_proof.specs.Shape.{levels, shape, turns}
use Rattle.merkle_proof.specs.declared.proof.Proof.{Proof}

pub placed : (count index level long way : ℕ) (steps : List (List ℕ)) → 1 ≤ index → index ≤ count → level ≡ levels → long ≡ length steps → way ≡ length (turns (shape level count) (index - 1))
    → IsTrue (nat_eq long way) ↔ IsPlaced count index steps
placed count index level long way steps from_one within same is_long is_way =
    let own : way ≡ length (turns (shape levels count) (index - 1)) = is_way ∙ ap (λ k. length (turns (shape k count) (index - 1))) same in (
      λ test. record { from_one = from_one; within = within; long = sym is_long ∙ eqb-true long way test ∙ own },
      λ told. eq-eqb long way (is_long ∙ told.long ∙ sym own),
    )

-- the test of a proof decides
pub verified_is : (top : List ℕ) (write : Placed) (proof : Proof) → Decides (is_verified top write proof) (IsVerified top write proof)
verified_is top write proof = (
  λ test.
      let first = and_parts (nat_le 1 proof.index) _ test in
      let second = and_parts (nat_le proof.index proof.count) _ first.1 in
      let third = and_parts (length proof.path == length (turns (shape levels proof.count) (proof.index - 1))) _ second.1 in
      record {
        placed = record {
          from_one = leb-true 1 proof.index first.0;
          within = leb-true proof.index proof.count second.0;
          long = eqb-true (length proof.path) (length (turns (shape levels proof.count) (proof.index - 1))) third.0;
        };
        leads = equal_bytes (claimed sha256 proof.count (proof.index - 1) (reverse proof.path) (write_code write)) top third.1;
      },
  λ told.
      and_from (nat_le 1 proof.index) _ (le-leb 1 proof.index told.placed.from_one)
      (and_from (nat_le proof.index proof.count) _ (le-leb proof.index proof.count told.placed.within)
      (and_from (length proof.path == length (turns (shape levels proof.count) (proof.index - 1))) _
      (eq-eqb (length proof.path) (length (turns (shape levels proof.count) (proof.index - 1))) told.placed.long)
      (subst (λ head. bytes_eq (claimed sha256 proof.count (proof.index - 1) (reverse proof.path) (write_code write)) head ≡ true) told.leads
      (bytes_same (claimed sha256 proof.count (proof.index - 1) (reverse proof.path) (write_code write)))))),
)

-- an answer that decides the same is the test
pub verified_test : (top : List ℕ) (write : Placed) (proof : Proof) (code : List ℕ) (answer : Bool) → code ≡ write_code write → Decides answer (IsProof sha256 top code proof.count proof.index proof.path)
    → answer ≡ is_verified top write proof
verified_test top write proof code answer is tells = same_from_decides answer (is_verified top write proof)
    (subst (λ bytes. Decides answer (IsProof sha256 top bytes proof.count proof.index proof.path)) is tells) (verified_is top write proof)
