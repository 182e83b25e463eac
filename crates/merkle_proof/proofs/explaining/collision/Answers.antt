use Rattle.std.proofs.Common.{arith, ◌≡◌, ◌≤◌, ◌<◌, ◌-◌, ◌^◌, ◌∙◌, length, reverse, sym, ap, subst}
use Rattle.std.proofs.lemmas.List.{length-map}
use Rattle.sha2.specs.Sha256.{sha256}
use Rattle.canon_code.specs.Writes.{write_code}
use Rattle.merkle_proof.specs.Shape.{levels, shape, turns}
use Rattle.merkle_proof.specs.Tree.{climb, leaf_of}
use Rattle.merkle_proof.proofs.Member.{leads_to_root, not_apart}
use Rattle.merkle_proof.proofs.explaining.collision.Goals as goal

pub fork_apart-requires-clause-few : goal.fork_apart-requires-clause-few
fork_apart-requires-clause-few c = let few = c.requires.few in subst (λ k. length c.args.writes.now ≤ 2 ^ k) (sym c.most_levels.ensures.few) (omega (arith, few))

pub fork_apart-requires-clause-long : goal.fork_apart-requires-clause-long
fork_apart-requires-clause-long c =
    let count : c.args.proof.now.count ≡ length c.args.writes.now = omega (arith, c.if-proof-count.false) in
    ap length c.as_slice.ensures ∙ c.requires.proof.placed.long
    ∙ ap (λ n. length (turns (shape levels n) (c.args.proof.now.index - 1))) count
    ∙ ap (λ k. length (turns (shape k (length c.args.writes.now)) (c.args.proof.now.index - 1))) (sym c.most_levels.ensures.same)

pub fork_apart-requires-clause-leads : goal.fork_apart-requires-clause-leads
fork_apart-requires-clause-leads c =
    let count : c.args.proof.now.count ≡ length c.args.writes.now = omega (arith, c.if-proof-count.false) in
    let placed = c.requires.proof.placed in
    let inside : c.args.proof.now.index - 1 < c.args.proof.now.count = omega (arith, placed) in
    let same : c.claimed_root-claimed.result ≡ c.in_ok-own.own = not_apart c.claimed_root-claimed.result c.in_ok-own.own c.ne.result c.ne.ensures c.if-ne.false in
    leads_to_root c.args.writes.now c.most_levels.result c.args.proof.now.count (c.args.proof.now.index - 1) c.args.proof.now.path c.as_slice.result.now (leaf_of sha256 c.args.code.now)
    c.claimed_root-claimed.result c.in_ok-own.own c.most_levels.ensures.same count inside c.as_slice.ensures
    (c.claimed_root-claimed.ensures ∙ ap (λ leaf. climb sha256 (turns (shape levels c.args.proof.now.count) (c.args.proof.now.index - 1)) (reverse c.args.proof.now.path) leaf) c.leaf.ensures) c.in_ok-own.ensures same

pub fork_apart-requires-clause-other : goal.fork_apart-requires-clause-other
fork_apart-requires-clause-other c =
    let count : c.args.proof.now.count ≡ length c.args.writes.now = omega (arith, c.if-proof-count.false) in
    λ here. c.requires.other (record { count = count ∙ sym (length-map c.args.writes.now write_code); stands = here })
