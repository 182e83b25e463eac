use Rattle.std.specs.Prelude.{Some}
use Rattle.merkle_proof.specs.ProofFiles.{number_in}
use Rattle.merkle_proof.proofs.Filed.{line_is}
use Rattle.merkle_proof.proofs.proof_files.read_numbered.Goals as goal

pub returns-in-Some-number_in : goal.returns-in-Some-number_in
returns-in-Some-number_in c =
    line_is c.args.line (number_in c.args.word.now c.args.low c.args.high) c.args.bytes.now c.in-Some.text.now c.in-Some.rest.now (Some c.in-Some-number_in.number)
    c.in-Some.ensures.parts c.in-Some-number_in.ensures
