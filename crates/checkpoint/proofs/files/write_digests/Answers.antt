use Rattle.std.proofs.Common.{◌∙◌, ap}
use Rattle.std.proofs.lemmas.List.Elements.{recursion_from_All}
use Rattle.hex_digits.specs.Laws.{IsHash}
use Rattle.checkpoint.specs.Files.{digest_file, digests_of}
use Rattle.checkpoint.proofs.Filed.{file_again}
use Rattle.checkpoint.proofs.files.write_digests.Goals as goal

pub returns-clause-back : goal.returns-clause-back
returns-clause-back c = λ plain few.
    ap digests_of (c.in_ok-file.ensures.file ∙ ap (λ heads. digest_file heads c.args.list.now) plain)
    ∙ file_again c.args.list.now few (recursion_from_All IsHash c.args.list.now c.in_ok-file.ensures.sound)
