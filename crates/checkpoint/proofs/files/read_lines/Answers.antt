use Rattle.std.proofs.Common.{◌+◌, ◌∙◌, ap, arith, sym}
use Rattle.checkpoint.specs.Files.{before, digests_from}
use Rattle.tx_text.specs.Parts.{parts_of}
use Rattle.checkpoint.proofs.Filed.{read_fault, read_step}
use Rattle.checkpoint.proofs.files.read_lines.Goals as goal

pub returns-in_default-digest_at : goal.returns-in_default-digest_at
returns-in_default-digest_at c =
    sym c.loop-line.invariant.0
    ∙ read_fault c.loop-line.height c.loop-line.rest.now c.in-Some.line.now c.in-Some.after.now c.loop-line.digests c.in-Some.ensures.parts (sym c.in_default-digest_at.ensures.digest)

pub loop-line-preserved : goal.loop-line-preserved
loop-line-preserved c =
    let low = c.in-Some-digest_at.ensures.low in (
      ap (λ digests. before digests (digests_from (c.loop-line.height + 1) (parts_of c.in-Some.after.now))) c.in_ok-push.ensures.ok
          ∙ sym (read_step c.loop-line.height c.loop-line.rest.now c.in-Some.line.now c.in-Some.after.now c.loop-line.digests c.in-Some-digest_at.digest c.in-Some.ensures.parts (sym c.in-Some-digest_at.ensures.digest))
          ∙ c.loop-line.invariant.0,
      omega (arith, low),
    )
