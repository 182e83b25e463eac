use Rattle.std.proofs.Common.{◌∙◌}
use Rattle.sha2.specs.Sha256.{schedule}
use Rattle.sha_lanes.proofs.Rounding.{rounds_on}
use Rattle.sha_lanes.proofs.rounds.step.Goals as goal

pub returns : goal.returns
returns c = λ block hash keyed held.
    rounds_on hash (schedule block 48) c.args.v _ c.args.place held (c.round.ensures _ _ (c.word_of.ensures ∙ keyed c.args.place c.requires.place))
