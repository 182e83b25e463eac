use Rattle.std.proofs.Common.{Ok, rules}
use Rattle.schedule_sim.proofs.Results.{delivers, folds, replays}
use Rattle.schedule_sim.specs.Bare.{Tells}
use Rattle.schedule_sim.specs.Running.{Given, simulated}
use Rattle.schedule_sim.proofs.whole_schedule.simulate.Goals as goal

pub returns-clause-folds : goal.returns-clause-folds
returns-clause-folds g c =
    let given : Given = record { app = c.args.app.now.value.app; blocks = c.args.blocks.now; arrivals = c.args.arrivals.now } in
    let told : Tells (Ok c.in_ok-made.made) (simulated given c.args.schedule.now.steps) = search rules in
    folds given c.args.schedule.now.steps c.in_ok-made.made told

pub returns-clause-delivers : goal.returns-clause-delivers
returns-clause-delivers g c =
    let given : Given = record { app = c.args.app.now.value.app; blocks = c.args.blocks.now; arrivals = c.args.arrivals.now } in
    let told : Tells (Ok c.in_ok-made.made) (simulated given c.args.schedule.now.steps) = search rules in
    delivers given c.args.schedule.now.steps c.in_ok-made.made told

pub returns-clause-replays : goal.returns-clause-replays
returns-clause-replays g c =
    let given : Given = record { app = c.args.app.now.value.app; blocks = c.args.blocks.now; arrivals = c.args.arrivals.now } in
    let told : Tells (Ok c.in_ok-made.made) (simulated given c.args.schedule.now.steps) = search rules in
    replays given c.args.schedule.now.steps c.in_ok-made.made told
