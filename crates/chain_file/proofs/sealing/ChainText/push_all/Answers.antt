use Rattle.std.proofs.Common.{List, ap, append_assoc, length, rules, subst, sym, take, ◌++◌, ◌<◌, ◌∙◌, ◌∷◌, []}
use Rattle.std.proofs.lemmas.List.{take_all, take_more}
use Rattle.chain_file.proofs.sealing.ChainText.push_all.Goals as goal
use Rattle.chain_file.specs.Sealed.{Spells}
use Rattle.proc_syntax.specs.declared.call.Block.{Block}

pub loop-block-preserved : goal.loop-block-preserved
loop-block-preserved c = λ v before spells.
    let within : c.loop-block.block-index < length c.args.blocks.now = search rules in
    let front : List Block = take c.loop-block.block-index c.args.blocks.now in
    let more = take_more c.args.blocks.now c.loop-block.block-index c.block-item.result within ∙ ap (λ block. front ++ block ∷ []) (sym c.block-item.is) in
    subst (λ all. Spells c.push.new.self v all) (append_assoc before front (c.block-item.result ∷ []) ∙ ap (λ all. before ++ all) (sym more)) (c.in_ok-push.ensures v (before ++ front) (c.loop-block.invariant v before spells))

pub returns : goal.returns
returns c = λ v before spells.
    subst (λ all. Spells c.loop-block.self v (before ++ all)) (take_all c.loop-block.block-index c.args.blocks.now (search rules)) (c.loop-block.invariant v before spells)
