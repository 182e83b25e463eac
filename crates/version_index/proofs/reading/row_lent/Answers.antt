use Rattle.std.proofs.Common.{arith, List, None, Some, ap, sym, ◌∙◌, ℕ}
use Rattle.std.proofs.lemmas.Grind.{elements}
use Rattle.rel_base.specs.declared.value.Value.{Value}
use Rattle.version_index.specs.View.{history_in}
use Rattle.version_index.proofs.Visible.{get_seen, seen_by}
use Rattle.version_index.proofs.Logged.{get_history}
use Rattle.version_index.proofs.reading.row_lent.Goals as goal

-- no write on the key is so low, so it has no row
pub returns-in-None : goal.returns-in-None
returns-in-None c =
    let ref : ℕ × List Value = (c.args.view.now.table, c.args.key.now) in
    sym (get_seen ref c.args.height (history_in c.args.view.now) None c.in-None.ensures)

-- the row is the one that the write left
pub returns-in-Some : goal.returns-in-Some
returns-in-Some c =
    let ref : ℕ × List Value = (c.args.view.now.table, c.args.key.now) in
    c.row_left.ensures
    ∙ sym (get_seen ref c.args.height (history_in c.args.view.now) (Some c.in-Some.number) c.in-Some.ensures ∙ ap seen_by (get_history c.args.view.now.entries.now c.in-Some.number c.entry_at.result.now c.entry_at.ensures))

pub entry_at-requires : goal.entry_at-requires
entry_at-requires c = grind (arith, elements)
