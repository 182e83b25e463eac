use Rattle.std.proofs.Common.{ap, arith, length, ◌∙◌}
use Rattle.load_gen.proofs.Listing.{length_txs}
use Rattle.load_gen.specs.Blocks.{later_block, txs_from}
use Rattle.load_gen.specs.Transactions.{load_tx}
use Rattle.load_gen.proofs.blocks.next_block.Goals as goal
use Rattle.proc_syntax.proofs.Blocks.{same_block}

pub block_of-requires : goal.block_of-requires
block_of-requires c = let long = ap length c.in_ok-txs.ensures.txs ∙ length_txs (load_tx c.args.drawn.now.load) c.args.drawn.now.next 50 in omega (arith, long)

pub returns-clause-block : goal.returns-clause-block
returns-clause-block c =
    same_block c.block_of.result (later_block c.args.drawn.now.load c.args.number) c.block_of.ensures.number c.block_of.ensures.time
    (c.block_of.ensures.txs ∙ c.in_ok-txs.ensures.txs ∙ ap (λ first. txs_from (load_tx c.args.drawn.now.load) first 50) c.requires.place)
