use Rattle.std.proofs.Common.{◌≡◌, rules, ap, sym}
use Rattle.std.specs.Prelude.{Some, codes}
use Rattle.merkle_proof.specs.ProofFiles.{header_in}
use Rattle.merkle_proof.proofs.Filed.{line_is}
use Rattle.merkle_proof.proofs.proof_files.read_header.Goals as goal

pub returns-in-Some : goal.returns-in-Some
returns-in-Some c =
    let same : c.in-Some.line.now ≡ codes "proof 1" = search rules in
    line_is 1 header_in c.args.bytes.now c.in-Some.line.now c.in-Some.rest.now (Some tt) c.in-Some.ensures.parts (sym (ap header_in same))
