use Rattle.std.proofs.Common.{rules, ◌≡◌, ◌∙◌, ap, length, sym}
use Rattle.sha2.specs.Sha256.{sha256}
use Rattle.merkle_proof.proofs.Apart.{nodes_differ}
use Rattle.merkle_proof.proofs.collision.nodes_apart.Goals as goal

pub returns : goal.returns
returns c =
    let claimed : length c.args.claimed_left.now ≡ 32 = search rules in
    let own : length c.args.left.now ≡ 32 = search rules in (
      λ same. nodes_differ c.args.claimed_left.now c.args.claimed_right.now c.args.left.now c.args.right.now (claimed ∙ sym own) c.requires.apart
          (sym c.in_ok-claimed.ensures ∙ same ∙ c.in_ok-own.ensures),
      ap sha256 c.in_ok-claimed.ensures ∙ c.requires.same ∙ sym (ap sha256 c.in_ok-own.ensures),
    )
