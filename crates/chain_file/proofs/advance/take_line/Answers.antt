use Rattle.std.proofs.Common.{Err, subst}
use Rattle.chain_file.specs.declared.step.StepFault.{StepFault}
use Rattle.chain_file.specs.declared.step.StepFault.TheVariants as stop
use Rattle.chain_file.specs.Steps.{GivesStep, step}
use Rattle.chain_file.proofs.Follow.{goes_on, goes_wrong}
use Rattle.chain_file.proofs.advance.take_line.Goals as goal

pub returns-in-Ok : goal.returns-in-Ok
returns-in-Ok c = λ at stands.
    goes_on at c.args.spot c.args.hashes.now c.hash_line.new.hashes c.args.text.now c.in-Ok.taken stands c.in-Ok.ensures c.hash_line.ensures

pub returns-in-Err-Kind : goal.returns-in-Err-Kind
returns-in-Err-Kind c = λ at stands.
    let stops : GivesStep (Err (stop.Kind c.in-Err-Kind.kind)) (step c.args.spot.place c.args.hashes.now.digits c.args.text.now) =
    subst (λ (s : StepFault). GivesStep (Err s) (step c.args.spot.place c.args.hashes.now.digits c.args.text.now)) c.in-Err-Kind.field-0-is c.in-Err-Kind.ensures in
    goes_wrong at c.args.spot c.args.hashes.now c.args.text.now c.in-Err-Kind.kind stands stops
