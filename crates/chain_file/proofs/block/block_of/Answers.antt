use Rattle.std.proofs.Common.{◌≡◌, ◌∙◌, arith, pos, sym}
use Rattle.std.proofs.lemmas.Int.{ints}
use Rattle.chain_file.proofs.Blocks.{made_block}
use Rattle.chain_file.proofs.block.block_of.Goals as goal

pub returns-in-Ok : goal.returns-in-Ok
returns-in-Ok c =
    let told = c.in-Ok.ensures.ok in
    let time : c.in-Ok.block.time ≡ pos c.args.time = told.1 ∙ omega (arith, ints, c.requires) in
    sym (made_block c.args.number c.args.time c.args.txs c.in-Ok.block told.0 time told.2)
