use Rattle.std.proofs.Common.{◌≡◌, rules}
use Rattle.proc_code.specs.Resolved.{code_of}
use Rattle.proc_run.proofs.Sounds.{sound_begun}
use Rattle.proc_run.proofs.machine.Machine.start.Goals as goal

pub invariant_of-result : goal.invariant_of-result
invariant_of-result c =
    let app = c.in_ok-app.app.value.app in
    let begun = c.in_ok-begun.begun in
    let coded : c.code.result.now ≡ code_of app = search rules in
    sound_begun app c.in_ok-app.tx _ begun.number c.code.result.now begun.phase c.in_ok-app.spots.items begun.run coded c.in_ok-app.ensures.spots c.in_ok-begun.ensures
