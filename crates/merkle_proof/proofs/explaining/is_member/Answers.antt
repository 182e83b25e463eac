use Rattle.std.proofs.Common.{arith, ◌≡◌, ◌<◌, ◌-◌, ◌∙◌, [], get_or, length, sym}
use Rattle.std.specs.Bool.{Decides}
use Rattle.std.proofs.lemmas.Bool.Decides.{Decides-eqb}
use Rattle.std.proofs.lemmas.List.{length-map}
use Rattle.std.proofs.lemmas.Slice.Eq.{slice_eq-Decides}
use Rattle.canon_code.specs.Writes.{write_code}
use Rattle.merkle_proof.specs.Proofs.{leaves_of}
use Rattle.merkle_proof.proofs.Member.{code_at}
use Rattle.merkle_proof.proofs.explaining.is_member.Goals as goal

pub returns : goal.returns
returns c =
    let count : c.args.proof.now.count ≡ length c.args.writes.now = omega (arith, c.if-proof-writes.false) in
    let inside : c.args.proof.now.index - 1 < length c.args.writes.now = omega (arith, count, c.requires.from_one, c.requires.within) in
    let own : c.as_slice.result.now ≡ get_or (leaves_of c.args.writes.now) (c.args.proof.now.index - 1) [] =
    code_at c.args.writes.now (c.args.proof.now.index - 1) c.index-writes-proof.result c.as_slice.result.now inside c.index-writes-proof.is (c.as_slice.ensures.value ∙ c.in_ok-own.ensures) in
    let tells : Decides c.eq.result (c.as_slice.result.now ≡ c.args.code.now) = slice_eq-Decides Decides-eqb c.as_slice.result.now c.args.code.now c.eq.result c.eq.ensures in (
      λ test. record { count = count ∙ sym (length-map c.args.writes.now write_code); stands = sym (tells.0 test) ∙ own },
      λ here. tells.1 (own ∙ sym here.stands),
    )
