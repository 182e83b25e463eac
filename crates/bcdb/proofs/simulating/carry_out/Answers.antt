use Rattle.std.proofs.Common.{IfOk, Ok, [], rules, ◌∷◌}
use Rattle.bcdb.proofs.Simulated.{reported}
use Rattle.bcdb.proofs.simulating.carry_out.Goals as goal
use Rattle.bcdb.specs.ProgramAnswer.{says, status_of}
use Rattle.bcdb.specs.Reply.{Means}
use Rattle.proc_syntax.specs.Declaring.{tables_of}
use Rattle.report_text.specs.Report.{report_text}
use Rattle.schedule_sim.specs.Bare.{Tells}
use Rattle.schedule_sim.specs.Running.{Given, simulated}

pub returns-in-Ok-clause-means : goal.returns-in-Ok-clause-means
returns-in-Ok-clause-means c =
    let given : Given = record { app = c.args.app.now.value.app; blocks = c.args.read.now.blocks; arrivals = c.args.arrivals.now } in
    let told : Tells (Ok c.in-Ok.node) (simulated given c.args.schedule.now.steps) = search rules in
    let means : IfOk c.report_node.result (λ reply. Means (says (status_of c.args.read.now.fault) (report_text c.args.look.now (tables_of c.args.app.now.value.app) (c.in-Ok.node ∷ []) c.args.read.now.fault)) reply) =
    search rules in
    reported c.args.look.now c.args.app.now.value.app c.args.read.now.fault c.in-Ok.node (simulated given c.args.schedule.now.steps) c.report_node.result told means
