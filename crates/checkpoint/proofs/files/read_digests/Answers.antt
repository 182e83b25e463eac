use Rattle.std.proofs.Common.{◌≡◌, ◌∙◌, rules, ap, subst, sym}
use Rattle.std.specs.Prelude.{Err, codes, cond}
use Rattle.rel_base.proofs.Bytes.{bytes_same}
use Rattle.std.specs.Str.{bytes_eq}
use Rattle.tx_text.specs.Parts.{parts_of}
use Rattle.tx_text.proofs.Glued.{parts_some}
use Rattle.checkpoint.specs.Files.{Gives, digests_from, digests_in}
use Rattle.checkpoint.proofs.Filed.{in_line}
use Rattle.checkpoint.proofs.files.read_digests.Goals as goal

pub returns : goal.returns
returns c =
    let same : c.in-Some.header.now ≡ codes "digests 1" = search rules in
    subst (Gives c.read_lines.result)
    (sym (ap digests_in c.in-Some.ensures.parts ∙ in_line c.in-Some.header.now (parts_of c.in-Some.rest.now) (parts_some c.in-Some.rest.now)
    ∙ ap (λ right. cond right (digests_from 1 (parts_of c.in-Some.rest.now)) (Err 1)) (ap (λ line. bytes_eq line (codes "digests 1")) same ∙ bytes_same (codes "digests 1"))))
    c.read_lines.ensures
