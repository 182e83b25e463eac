use Rattle.std.proofs.Common.{None, sym, subst, ℕ, List}
use Rattle.rel_base.specs.declared.value.Value.{Value}
use Rattle.row_sets.specs.Log.{history_of, stamped_of}
use Rattle.version_index.specs.Found.{IsVersion}
use Rattle.version_index.proofs.Logged.{get_history}
use Rattle.version_index.proofs.Visible.{get_seen, version_of}
use Rattle.version_index.proofs.look_up.LookUp.find.Goals as goal

-- no write on the key is so low, so it has no row
pub returns-in-None-clause-version : goal.returns-in-None-clause-version
returns-in-None-clause-version g c =
    get_seen (c.args.self.now.view.table, c.args.key.now) c.args.height (history_of c.args.self.now.view.entries.now) None c.in-None.ensures.last

-- the last write on the key is the version, where it left a row
pub returns-in-Some-clause-version : goal.returns-in-Some-clause-version
returns-in-Some-clause-version g c =
    let view = c.args.self.now.view in
    let ref : ℕ × List Value = (view.table, c.args.key.now) in
    let history = history_of view.entries.now in
    let entry = c.in-Some.probed.entry.now in
    subst (IsVersion ref c.args.height history) (sym c.version.ensures)
    (version_of ref c.args.height history c.in-Some.probed.number (stamped_of entry) (get_history view.entries.now c.in-Some.probed.number entry c.in-Some.ensures.entry) c.in-Some.ensures.last)
