use Rattle.std.proofs.Common.{◌∙◌, sym}
use Rattle.std.proofs.lemmas.Bool.{false≢true}
use Rattle.merkle_proof.proofs.Member.{told_code, told_member}
use Rattle.merkle_proof.proofs.explaining.explain.Goals as goal

pub returns-then-branch : goal.returns-then-branch
returns-then-branch c =
    let placed = c.requires.verified.placed in
    told_member c.args.writes.now c.as_slice.result.now c.args.write.now c.args.proof.now c.deref.result.now c.requires.rows c.requires.row placed.from_one placed.within
    c.as_slice.ensures (c.deref.ensures.value ∙ c.in_ok-code.ensures) (c.in_ok-is_member.ensures.0 c.if-branch.true)

pub returns : goal.returns
returns c = (
  λ member. false≢true (sym c.if-branch.false ∙ c.in_ok-is_member.ensures.1
      (told_code c.args.writes.now c.as_slice.result.now c.args.write.now c.args.proof.now c.deref.result.now c.as_slice.ensures (c.deref.ensures.value ∙ c.in_ok-code.ensures) member)),
  c.in_ok-left.ensures,
)
