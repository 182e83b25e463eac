use Rattle.std.proofs.Common.{[], ◌≤◌, ◌<◌, ◌+◌, ◌++◌, ◌∙◌, ap, append_assoc, arith, drop, get_or, length, subst, sym}
use Rattle.std.specs.Prelude.{All}
use Rattle.std.proofs.lemmas.List.{drop_more, take_all}
use Rattle.std.proofs.lemmas.List.Elements.{All-more}
use Rattle.hex_digits.specs.Laws.{IsHash}
use Rattle.tx_text.specs.Parts.{line_text}
use Rattle.checkpoint.specs.Files.{digest_text, lines_from}
use Rattle.checkpoint.proofs.files.push_digests.Goals as goal

pub loop-digest-preserved : goal.loop-digest-preserved
loop-digest-preserved c =
    let inside : c.loop-digest.digest-index < length c.args.digests.now = omega arith in
    record {
      height = omega (arith, c.loop-digest.invariant.height);
      lines =
          ap (λ front. front ++ lines_from (c.loop-digest.height + 1) (drop (c.loop-digest.digest-index + 1) c.args.digests.now)) c.in_ok-push_digest.ensures.line
          ∙ append_assoc c.loop-digest.out.items (line_text (digest_text c.loop-digest.height (get_or c.args.digests.now c.loop-digest.digest-index [])))
          (lines_from (c.loop-digest.height + 1) (drop (c.loop-digest.digest-index + 1) c.args.digests.now))
          ∙ ap (λ rest. c.loop-digest.out.items ++ lines_from c.loop-digest.height rest) (sym (drop_more c.args.digests.now c.loop-digest.digest-index [] inside)) ∙ c.loop-digest.invariant.lines;
      sound = All-more IsHash c.args.digests.now c.loop-digest.digest-index [] inside c.loop-digest.invariant.sound c.push_digest.ensures.sound;
    }

pub returns-clause-sound : goal.returns-clause-sound
returns-clause-sound c =
    let whole : length c.args.digests.now ≤ c.loop-digest.digest-index = omega arith in
    subst (All IsHash) (take_all c.loop-digest.digest-index c.args.digests.now whole) c.loop-digest.invariant.sound
