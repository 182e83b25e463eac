use Rattle.std.proofs.Common.{◌≡◌, ◌+◌, ◌∙◌, false, true, ap, arith, subst, sym}
use Rattle.std.specs.Prelude.{codes}
use Rattle.std.specs.Str.{bytes_eq}
use Rattle.tx_text.specs.Parts.{parts_of}
use Rattle.merkle_proof.specs.ProofFiles.{Gives, before, steps_from}
use Rattle.merkle_proof.proofs.Filed.{bytes_test, read_last, read_step}
use Rattle.merkle_proof.proofs.proof_files.read_steps.Goals as goal

pub returns-then-eq : goal.returns-then-eq
returns-then-eq c =
    let last : bytes_eq c.in-Some.line.now (codes "end") ≡ true =
    ap (λ end. bytes_eq c.in-Some.line.now end) (sym c.as_slice.ensures) ∙ bytes_test c.in-Some.line.now c.as_slice.result.now c.eq.result c.eq.ensures ∙ c.if-eq.true in
    subst (Gives c.finish.result)
    (sym (read_last c.loop-line.number c.loop-line.rest.now c.in-Some.line.now c.in-Some.after.now c.loop-line.steps c.in-Some.ensures.parts last) ∙ c.loop-line.invariant.0) c.finish.ensures

pub loop-line-preserved : goal.loop-line-preserved
loop-line-preserved c =
    let other : bytes_eq c.in-Some.line.now (codes "end") ≡ false =
    ap (λ end. bytes_eq c.in-Some.line.now end) (sym c.as_slice.ensures) ∙ bytes_test c.in-Some.line.now c.as_slice.result.now c.eq.result c.eq.ensures ∙ c.if-eq.false in
    let low = c.in-Some-step_at.ensures.low in (
      ap (λ steps. before steps (steps_from (c.loop-line.number + 1) (parts_of c.in-Some.after.now))) c.in_ok-push.ensures.ok
          ∙ sym (read_step c.loop-line.number c.loop-line.rest.now c.in-Some.line.now c.in-Some.after.now c.loop-line.steps c.in-Some-step_at.step c.in-Some.ensures.parts other c.in-Some-step_at.ensures.step)
          ∙ c.loop-line.invariant.0,
      omega (arith, low),
    )
