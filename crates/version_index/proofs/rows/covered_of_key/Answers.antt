use Rattle.std.proofs.Common.{arith}
use Rattle.std.proofs.lemmas.Grind.{elements}
use Rattle.std.proofs.Common.{◌∙◌, ap, sym, ℕ, List, Some, None}
use Rattle.rel_base.specs.declared.value.Value.{Value}
use Rattle.version_index.specs.Rows.{covered_row}
use Rattle.version_index.specs.View.{history_in}
use Rattle.version_index.proofs.Visible.{get_seen, seen_by}
use Rattle.version_index.proofs.Logged.{get_history}
use Rattle.version_index.proofs.rows.covered_of_key.Goals as goal

-- no write on the key is so low, so it has no row
pub returns-in-None : goal.returns-in-None
returns-in-None c =
    let ref : ℕ × List Value = (c.args.view.now.table, c.args.candidate.0.now) in
    sym (ap (covered_row c.args.look.now.def.now c.args.look.now.read.now) (get_seen ref c.args.look.now.height (history_in c.args.view.now) None c.in-None.ensures))

-- the row is the one that the write left
pub returns-in-Some : goal.returns-in-Some
returns-in-Some c =
    let ref : ℕ × List Value = (c.args.view.now.table, c.args.candidate.0.now) in
    c.covered_left.ensures
    ∙ sym (ap (covered_row c.args.look.now.def.now c.args.look.now.read.now)
    (get_seen ref c.args.look.now.height (history_in c.args.view.now) (Some c.in-Some.number) c.in-Some.ensures ∙ ap seen_by (get_history c.args.view.now.entries.now c.in-Some.number c.entry_at.result.now c.entry_at.ensures)))

pub entry_at-requires : goal.entry_at-requires
entry_at-requires c = grind (arith, elements)

pub covered_left-requires-clause-row_fits : goal.covered_left-requires-clause-row_fits
covered_left-requires-clause-row_fits c = grind (arith, elements)
