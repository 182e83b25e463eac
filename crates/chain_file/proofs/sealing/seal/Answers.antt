use Rattle.std.proofs.Common.{[], ap, subst, ◌∙◌, ◌≡◌}
use Rattle.chain_file.proofs.Back.{file_again}
use Rattle.chain_file.proofs.sealing.seal.Goals as goal
use Rattle.chain_file.specs.Chain.{chain}
use Rattle.chain_file.specs.Headers.{chain_form}
use Rattle.chain_file.specs.ChainText.{chain_text}
use Rattle.chain_file.specs.Sealed.{Spells}

text : (c : goal.After-finish) → c.finish.result ≡ chain_text c.args.version c.args.blocks.now
text c =
    let spells : Spells c.push_all.new.self c.args.version c.args.blocks.now =
    subst (λ blocks. Spells c.push_all.new.self c.args.version blocks) c.as_slice.ensures (c.in_ok-push_all.ensures c.args.version [] c.in_ok-chain.ensures) in
    c.finish.ensures c.args.version c.args.blocks.now spells

pub returns-clause-text : goal.returns-clause-text
returns-clause-text c = text c

pub returns-clause-again : goal.returns-clause-again
returns-clause-again c = λ can. ap chain (text c) ∙ file_again (chain_form c.args.version) c.args.blocks.now can
