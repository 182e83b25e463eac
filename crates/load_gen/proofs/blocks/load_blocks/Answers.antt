use Rattle.std.proofs.Common.{ap, arith, map, ◌+◌, ◌-◌, ◌∙◌, ◌≡◌, ◌∷◌}
use Rattle.load_gen.proofs.Listing.{more_blocks}
use Rattle.load_gen.specs.Blocks.{first_block, later_block, load_blocks}
use Rattle.std.specs.List.{range_with_len}
use Rattle.load_gen.proofs.blocks.load_blocks.Goals as goal

pub loop-block-preserved : goal.loop-block-preserved
loop-block-preserved c =
    let so = c.loop-block.invariant in
    let from = c.loop-block.auto.block in
    let next = so.1 in
    let moved = c.in_ok-next_block.ensures.moved in (
      more_blocks c.args.number (c.loop-block.block - 2) c.loop-block.block (c.loop-block.block + 1 - 2) _ _ _ c.in_ok-push-2.ensures.ok so.0
          (c.in_ok-next_block.ensures.block ∙ ap (λ load. later_block load c.loop-block.block) so.2) (omega (arith, from)) (omega (arith, from)),
      omega (arith, from, next, moved),
      c.next_block.ensures.load ∙ so.2,
    )

pub returns : goal.returns
unfolding load_blocks
returns c =
    let past = c.loop-block-test.false in
    let within = c.loop-block.auto.block-end (omega arith) in
    let end : c.loop-block.block - 2 ≡ 40 = omega (arith, past, within) in
    c.loop-block.invariant.0 ∙ ap (λ n. first_block ∷ map (later_block c.args.number) (range_with_len 2 n)) end
