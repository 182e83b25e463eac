use Rattle.std.proofs.Common.{arith, length, reverse, subst, sym, ap, ◌∙◌, ◌-◌, ◌^◌, ◌≤◌}
use Rattle.sha2.specs.Sha256.{sha256}
use Rattle.merkle_proof.specs.Shape.{levels, shape, turns}
use Rattle.merkle_proof.specs.Tree.{climb}
use Rattle.merkle_proof.proofs.verifying.claimed_root.Goals as goal

pub climb-requires-clause-count : goal.climb-requires-clause-count
climb-requires-clause-count c = subst (λ k. c.args.proof.now.count ≤ 2 ^ k) (sym c.most_levels.ensures.few) (omega arith)

pub climb-requires-clause-long : goal.climb-requires-clause-long
climb-requires-clause-long c =
    ap length c.as_slice.ensures ∙ c.requires.long ∙ ap (λ k. length (turns (shape k c.args.proof.now.count) (c.args.proof.now.index - 1))) (sym c.most_levels.ensures.same)

pub returns : goal.returns
returns c =
    c.climb.ensures
    ∙ ap (λ k. climb sha256 (turns (shape k c.args.proof.now.count) (c.args.proof.now.index - 1)) (reverse c.as_slice.result.now) c.args.leaf) c.most_levels.ensures.same
    ∙ ap (λ steps. climb sha256 (turns (shape levels c.args.proof.now.count) (c.args.proof.now.index - 1)) (reverse steps) c.args.leaf) c.as_slice.ensures
