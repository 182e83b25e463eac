use Rattle.std.proofs.Common.{sym}
use Rattle.std.specs.Prelude.{Some}
use Rattle.merkle_proof.specs.ProofFiles.{write_in}
use Rattle.merkle_proof.proofs.Filed.{line_is, write_ok}
use Rattle.merkle_proof.proofs.proof_files.read_write_line.Goals as goal

pub returns-in-Ok-clause-line : goal.returns-in-Ok-clause-line
returns-in-Ok-clause-line c = line_is 4 write_in c.args.bytes.now c.in-Some.line.now c.in-Some.rest.now (Some c.in-Ok.write) c.in-Some.ensures.parts (sym c.in-Ok.ensures)

pub returns-in-Ok-clause-code : goal.returns-in-Ok-clause-code
returns-in-Ok-clause-code c = (write_ok c.in-Some.line.now c.in-Ok.write c.in-Ok.ensures).0
