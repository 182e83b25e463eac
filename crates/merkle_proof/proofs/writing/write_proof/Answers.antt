use Rattle.std.proofs.Common.{◌∙◌, ap}
use Rattle.std.proofs.lemmas.List.Elements.{recursion_from_All}
use Rattle.hex_digits.specs.Laws.{IsHash}
use Rattle.merkle_proof.specs.ProofFiles.{proof_in}
use Rattle.merkle_proof.proofs.Filed.{file_again}
use Rattle.merkle_proof.proofs.writing.write_proof.Goals as goal

pub returns-clause-back : goal.returns-clause-back
returns-clause-back c = λ code from_one within.
    ap proof_in c.in_ok-file.ensures.file
    ∙ file_again c.args.write.now c.args.proof.now (record {
      code = code;
      from_one = from_one;
      within = within;
      few = c.in_ok-file.ensures.few;
      short = c.requires.short;
      hashes = recursion_from_All IsHash c.args.proof.now.path c.in_ok-file.ensures.sound;
    })
