use Rattle.std.proofs.Common.{◌≡◌, ◌∙◌, ap, arith, refl, sym}
use Rattle.sha2.proofs.Absorbing256.{hash_after_next}
use Rattle.sha2.specs.Sha256.{compress, hash_after}
use Rattle.sha_lanes.specs.Lanes.{block_of}
use Rattle.sha_lanes.proofs.blocks.take_blocks.Goals as goal

pub taken-init : goal.taken-init
unfolding hash_after
taken-init c = (refl, c.keyed_words-words.ensures)

pub taken-preserved : goal.taken-preserved
taken-preserved c =
    let block = block_of c.args.bytes.now c.taken.lane in (
      c.compress.ensures block (c.taken.invariant.1 c.taken.lane (omega arith)) ∙ ap (λ hash. compress hash block) c.taken.invariant.0
          ∙ sym (hash_after_next c.args.hash.now c.args.bytes.now c.taken.lane),
      c.taken.invariant.1,
    )

pub returns : goal.returns
returns c =
    let done : c.taken.lane ≡ c.args.count = omega arith in
    c.taken.invariant.0 ∙ ap (hash_after c.args.hash.now c.args.bytes.now) done
