use Rattle.std.proofs.Common.{sym}
use Rattle.proc_code.specs.Coded.{end_worth}
use Rattle.direct_run.specs.Runs.{state_of}
use Rattle.direct_run.proofs.Fitting.{spans_to}
use Rattle.direct_run.proofs.looking.Ground.span.Goals as goal

pub returns : goal.returns
returns g c = λ tables slot.
    let self = c.args.self.now in
    let st = state_of c.args.run.now in
    spans_to self.tables.now c.in_ok-table.table c.args.table c.args.column (end_worth self.columns.now c.args.low.now st.environment) (end_worth self.columns.now c.args.high.now st.environment)
    c.in_ok-low.low c.in_ok-high.high c.in_ok-read.read tables slot st
    c.in_ok-table.ensures.ok c.in_ok-table.ensures.number c.in_ok-low.ensures c.in_ok-high.ensures (sym c.in_ok-read.ensures)
