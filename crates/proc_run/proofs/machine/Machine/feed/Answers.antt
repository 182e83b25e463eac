use Rattle.std.proofs.Common.{rules}
use Rattle.proc_syntax.specs.Declaring.{tables_of}
use Rattle.proc_run.specs.declared.state.Phase.TheVariants as phase
use Rattle.proc_run.specs.Remains.{StandInOrder}
use Rattle.proc_run.specs.MachineView.{IsSound}
use Rattle.proc_run.proofs.Sounds.{sound_fed}
use Rattle.proc_run.proofs.machine.Machine.feed.Goals as goal

pub invariant_of-self : goal.invariant_of-self
invariant_of-self c =
    let app = c.self.inside.app.value.app in
    let order : StandInOrder (tables_of app) c.in-Ask.asked.made.read c.args.rows = search rules in
    let sound : IsSound app c.self.inside.tx c.self.inside.time c.self.inside.number (phase.Ask c.in-Ask.at c.in-Ask.asked) c.self.inside.spots.items c.self.inside.run c.self.inside.told = search rules in
    rw c.stand.ensures (rw c.with_rows-asked.ensures
    (sound_fed app c.self.inside.tx c.self.inside.time c.self.inside.number c.in-Ask.at c.in-Ask.asked c.args.rows c.self.inside.spots.items c.self.inside.run c.self.inside.told sound order))
