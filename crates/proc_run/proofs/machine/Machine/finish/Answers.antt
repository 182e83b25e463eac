use Rattle.std.proofs.Common.{◌++◌, ◌∙◌, sym, subst}
use Rattle.proc_syntax.specs.Declaring.{tables_of}
use Rattle.proc_code.specs.Resolved.{code_of}
use Rattle.proc_run.specs.MachineView.{Agrees, given_of}
use Rattle.proc_run.specs.Path.{body_at}
use Rattle.proc_run.proofs.machine.Machine.finish.Goals as goal

pub returns : goal.returns
returns c = λ S a.
    let m = c.self.inside in
    let app = m.app.value.app in
    let b : Agrees (tables_of app) S (m.run.made.items ++ given_of m.phase) = subst (λ told. Agrees (tables_of told.app) S told.fed) (sym c.self.view_is) a in
    rw (← c.self.view_is)
    (c.gives.ensures (tables_of app) (code_of app).columns S (body_at (code_of app) m.number) m.spots.items m.run.environment m.run.steps (c.self.invariant.found S b)
    ∙ c.self.invariant.follows S b)
