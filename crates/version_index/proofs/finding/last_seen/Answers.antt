use Rattle.std.proofs.Common.{◌+◌, ◌*◌}
use Rattle.row_sets.specs.Log.{history_of}
use Rattle.version_index.specs.Chain.{is_seen}
use Rattle.version_index.specs.Found.{count_on, number_of, tail_in}
use Rattle.version_index.proofs.Halves.{with_others}
use Rattle.version_index.proofs.Lows.{last_of_noted}
use Rattle.version_index.proofs.finding.last_seen.Goals as goal

-- none of the tail is seen
pub returns-in-None-clause-last : goal.returns-in-None-clause-last
returns-in-None-clause-last g c =
    let view = c.args.look_up.now.view in
    last_of_noted (is_seen (view.table, c.args.key.now) c.args.height) view.noted (history_of view.entries.now) (number_of c.seen_noted.result) c.seen_noted.ensures.last c.in-None.ensures.last

pub returns-in-None-clause-cost : goal.returns-in-None-clause-cost
returns-in-None-clause-cost g c =
    let view = c.args.look_up.now.view in
    with_others c.args.steps.now c.seen_in_tail.new.steps c.seen_noted.new.steps (tail_in view) (4 * count_on view.table (history_of view.entries.now) + 2) c.seen_in_tail.ensures.on c.seen_noted.ensures.on
    c.seen_in_tail.ensures.cost c.seen_noted.ensures.cost
