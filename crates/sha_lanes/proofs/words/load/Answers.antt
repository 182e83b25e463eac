use Rattle.std.proofs.Common.{arith, ◌∙◌}
use Rattle.std.proofs.lemmas.List.{length-set}
use Rattle.sha_lanes.proofs.Lanes.{first_word, hold_next}
use Rattle.sha_lanes.proofs.words.load.Goals as goal

pub load-preserved : goal.load-preserved
load-preserved c = (
  length-set c.load.words c.load.place c.words_at.result ∙ c.load.invariant.0,
  hold_next c.args.bytes.now c.load.words c.load.place c.words_at.result (omega (arith, c.load.invariant.0)) c.load.invariant.1
      (first_word c.args.bytes.now c.words_at.result c.load.place c.load-test.true c.words_at.ensures),
)
