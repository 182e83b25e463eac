use Rattle.std.proofs.Common.{◌≡◌, ◌<◌, rules, ap, sym, ◌∙◌, Some, true, length}
use Rattle.std.specs.Prelude.{slice_get}
use Rattle.std.specs.Str.{bytes_eq}
use Rattle.std.proofs.lemmas.Option.{slice_get-get_or}
use Rattle.proc_code.proofs.Called.{found_here}
use Rattle.proc_code.proofs.calls.number_of.Goals as goal

pub returns-then-eq : goal.returns-then-eq
returns-then-eq c =
    let within : c.loop-i.i < length c.args.procs.now = search rules in
    let here : slice_get c.args.procs.now c.loop-i.i ≡ Some c.index-procs-i.result = slice_get-get_or c.args.procs.now c.loop-i.i c.index-procs-i.result within ∙ ap Some (sym c.index-procs-i.is) in
    let hit : bytes_eq c.index-procs-i.result.name c.args.name.now ≡ true = search rules in
    found_here (λ procedure. bytes_eq procedure.name c.args.name.now) c.args.procs.now c.loop-i.i c.index-procs-i.result c.loop-i.invariant here hit
