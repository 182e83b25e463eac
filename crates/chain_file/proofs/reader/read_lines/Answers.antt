use Rattle.std.proofs.Common.{sym, ◌∙◌, ap, subst}
use Rattle.std.specs.Prelude.{Err}
use Rattle.chain_file.specs.declared.advance.LineStop.{LineStop}
use Rattle.chain_file.specs.declared.advance.LineStop.TheVariants as stop
use Rattle.chain_file.specs.Following.{TakesLine}
use Rattle.chain_file.specs.Chain.{take_line}
use Rattle.chain_file.proofs.Walking.{walk_fault, walk_on}
use Rattle.chain_file.proofs.reader.read_lines.Goals as goal

pub returns-in-Err-Fault : goal.returns-in-Err-Fault
returns-in-Err-Fault c =
    λ at stands.
    let inv = c.loop-line.invariant at stands in
    let told : TakesLine (Err (stop.Fault c.in-Err-Fault.fault)) c.take_line.new.hashes (take_line inv.0 c.in-Some.line.now) =
    subst (λ (s : LineStop). TakesLine (Err s) c.take_line.new.hashes (take_line inv.0 c.in-Some.line.now)) c.in-Err-Fault.field-0-is (c.in-Err-Fault.ensures inv.0 inv.1) in
    let e = walk_fault at inv.0 c.args.bytes.now c.loop-line.rest.now c.in-Some.line.now c.in-Some.after.now c.loop-line.given c.in-Err-Fault.fault inv.2 c.in-Some.ensures.parts told in
    (sym (ap (λ w. w.0) e), ap (λ w. w.1) e ∙ ap (λ f. Err f) (sym c.in-Err-Fault.fault-is))

pub loop-line-preserved : goal.loop-line-preserved
loop-line-preserved c =
    λ at stands.
    let inv = c.loop-line.invariant at stands in
    let taken = c.in-Ok.ensures inv.0 inv.1 in
    (taken.0, taken.1, walk_on at inv.0 taken.0 c.args.bytes.now c.loop-line.rest.now c.in-Some.line.now c.in-Some.after.now c.loop-line.given c.push_ended.new.given c.in-Ok.ended inv.2 c.in-Some.ensures.parts taken.2 c.in_ok-push_ended-in-Ok.ensures)
