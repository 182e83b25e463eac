use Rattle.std.proofs.Common.{arith, ◌∙◌}
use Rattle.sha_lanes.proofs.Lanes.{below_four, word_of_block}
use Rattle.sha_lanes.proofs.words.words_at.Goals as goal

pub returns : goal.returns
returns c =
    below_four _
    (c.word.ensures ∙ word_of_block c.args.bytes.now 0 c.args.place _ c.requires.place (omega arith))
    (c.word-2.ensures ∙ word_of_block c.args.bytes.now 1 c.args.place _ c.requires.place (omega arith))
    (c.word-3.ensures ∙ word_of_block c.args.bytes.now 2 c.args.place _ c.requires.place (omega arith))
    (c.word-4.ensures ∙ word_of_block c.args.bytes.now 3 c.args.place _ c.requires.place (omega arith))
