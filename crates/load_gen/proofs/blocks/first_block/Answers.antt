use Rattle.std.proofs.Common.{ap, arith, length, ◌∙◌}
use Rattle.load_gen.proofs.Listing.{length_txs}
use Rattle.load_gen.specs.Blocks.{first_block}
use Rattle.load_gen.specs.Transactions.{opening_tx}
use Rattle.load_gen.proofs.blocks.first_block.Goals as goal
use Rattle.proc_syntax.proofs.Blocks.{same_block}

pub block_of-requires : goal.block_of-requires
block_of-requires c = let long = ap length c.in_ok-txs.ensures ∙ length_txs opening_tx 1 64 in omega (arith, long)

pub returns : goal.returns
returns c = same_block c.block_of.result first_block c.block_of.ensures.number c.block_of.ensures.time (c.block_of.ensures.txs ∙ c.in_ok-txs.ensures)
