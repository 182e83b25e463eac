use Rattle.std.proofs.Common.{List, None, Some, slice_set, sym, ◌≡◌, ◌∙◌, ap}
use Rattle.proc_syntax.specs.declared.call.Block.{Block}
use Rattle.chain_file.proofs.Blocks.{blocks_made, some_block}
use Rattle.chain_file.proofs.finish.put_block.Goals as goal

pub returns : goal.returns
returns c = λ blank following is.
    c.replace-blank.ensures.now ∙ ap (λ (blocks : List Block). slice_set blocks 0 c.in-Some.block) is
    ∙ sym (blocks_made c.args.number c.args.time c.args.txs c.in-Some.block following (sym c.in-Some.ensures))

pub unreachable-requires : goal.unreachable-requires
unreachable-requires c =
    let made = some_block c.args.number c.args.time c.args.txs c.requires.few in
    let same : None ≡ Some made.0 = sym c.in-None.is ∙ c.block_of.ensures ∙ made.1 in
    absurd (cc)
