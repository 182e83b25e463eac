use Rattle.std.proofs.Common.{IfOk, ap, subst, sym, ◌≡◌, ◌∙◌}
use Rattle.std.specs.Option.{option_and_then, option_copied}
use Rattle.bcdb.proofs.HistoryParts.{holds_numbered, numbered_part}
use Rattle.bcdb.proofs.extract.prove_write.Goals as goal
use Rattle.bcdb.specs.FewWrites.{AreFew, HasFewWrites}
use Rattle.bcdb.specs.HistoryParts.{from_block}
use Rattle.merkle_proof.specs.Blocks.{proof_of_block}
use Rattle.node_model.specs.declared.result.BlockResult.{BlockResult}
use Rattle.row_sets.specs.BlockWrites.{writes_from}

pub prove_in_history-requires : goal.prove_in_history-requires
prove_in_history-requires g c =
    let number = c.args.block in
    let found = sym c.block_at.ensures ∙ ap option_copied c.in-Some.is in
    let part = ap (λ h. writes_from number (from_block number h)) c.requires.history ∙ numbered_part c.args.blocks.now number c.in-Some.field-0.now c.requires.numbers found in
    subst AreFew (sym part) (holds_numbered HasFewWrites c.args.blocks.now number c.in-Some.field-0.now c.requires.few found)

pub returns-in-Some : goal.returns-in-Some
returns-in-Some g c =
    let number = c.args.block in
    let found = sym c.block_at.ensures ∙ ap option_copied c.in-Some.is in
    let part = ap (λ h. writes_from number (from_block number h)) c.requires.history ∙ numbered_part c.args.blocks.now number c.in-Some.field-0.now c.requires.numbers found in
    let same = ap (λ writes. proof_of_block writes c.args.write) part ∙ sym (ap (option_and_then (λ (b : BlockResult). proof_of_block b.writes c.args.write)) found) in
    subst (λ meant. IfOk c.prove_in_history.result (λ file. file ≡ meant)) same c.prove_in_history.ensures
