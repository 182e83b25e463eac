use Rattle.std.proofs.Common.{◌∙◌}
use Rattle.merkle_proof.proofs.Verified.{verified_test}
use Rattle.merkle_proof.proofs.verifying.verify.Goals as goal

pub returns-clause-test : goal.returns-clause-test
returns-clause-test c =
    verified_test c.args.head.now c.args.write.now c.args.proof.now c.deref.result.now c.leads.result (c.deref.ensures.value ∙ c.in_ok-code.ensures) c.leads.ensures
