use Rattle.std.proofs.Common.{ap, rules, ◌++◌, ◌∙◌, ◌≡◌}
use Rattle.std.specs.Prelude.{codes}
use Rattle.std.specs.List.{flat_map}
use Rattle.tx_text.specs.Parts.{line_text}
use Rattle.chain_file.proofs.Back.{file_again}
use Rattle.order_queue.proofs.Drafted.{draft_flat}
use Rattle.chain_file.specs.Chain.{chain}
use Rattle.chain_file.specs.Headers.{draft_form}
use Rattle.chain_file.specs.Text.{CanStand}
use Rattle.chain_file.specs.declared.form.ChainVersion.TheVariants as version
use Rattle.order_queue.specs.Drafts.{draft_block, draft_text}
use Rattle.order_queue.proofs.drafting.draft.Goals as goal

text : (c : goal.After-from_vec) → c.from_vec.result ≡ draft_text c.args.blocks.now
text c =
    let flat : c.from_vec.result ≡ line_text (codes "draft 1") ++ flat_map draft_block c.args.blocks.now = search rules in
    flat ∙ draft_flat c.args.blocks.now

pub returns-clause-text : goal.returns-clause-text
returns-clause-text c = text c

pub returns-clause-again : goal.returns-clause-again
returns-clause-again c =
    let can : CanStand version.One c.args.blocks.now = record { numbered = c.requires.numbered; times = c.requires.times; few = c.requires.few; lines = c.requires.lines } in
    ap chain (text c) ∙ file_again (draft_form version.One) c.args.blocks.now can
