use Rattle.std.proofs.Common.{◌≡◌, ◌<◌, length, rules}
use Rattle.std.specs.Prelude.{slice_index_or}
use Rattle.proc_code.specs.Resolved.{proc_of}
use Rattle.proc_code.proofs.Walked.{mapped}
use Rattle.proc_code.proofs.resolving.resolve_procs.Goals as goal

pub loop-procedure-preserved : goal.loop-procedure-preserved
loop-procedure-preserved c =
    let within : c.loop-procedure.procedure-index < length c.args.procedures.now = search rules in
    let here : slice_index_or c.args.procedures.now c.loop-procedure.procedure-index c.procedure-item.result ≡ c.procedure-item.result = search rules in
    mapped (proc_of c.args.tables.now) c.args.procedures.now c.loop-procedure.procedure-index c.procedure-item.result c.loop-procedure.procs c.push.new.self c.in_ok-code.code
    within here c.loop-procedure.invariant c.in_ok-push.ensures.ok c.in_ok-code.ensures
