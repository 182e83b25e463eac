use Rattle.std.proofs.Common.{ap, ◌∙◌, arith}
use Rattle.sha2.specs.Sha256.{rounds, schedule}
use Rattle.sha_lanes.proofs.rounds.four_steps.Goals as goal

pub returns : goal.returns
returns c = λ block hash keyed held.
    let after = rounds hash (schedule block 48) in
    let first = c.step-v.ensures block hash keyed held in
    let second = c.step-v-2.ensures block hash keyed first in
    let third = c.step-v-3.ensures block hash keyed (second ∙ ap after (omega arith)) in
    c.step.ensures block hash keyed (third ∙ ap after (omega arith)) ∙ ap after (omega arith)
