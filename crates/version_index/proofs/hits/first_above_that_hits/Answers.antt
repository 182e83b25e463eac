use Rattle.row_sets.specs.Watched.{is_watched}
use Rattle.version_index.specs.View.{history_in}
use Rattle.version_index.proofs.Points.{first_of_from}
use Rattle.version_index.proofs.Watching.{low_numbers}
use Rattle.version_index.proofs.hits.first_above_that_hits.Goals as goal

-- none before the first write above the height is hit
pub returns : goal.returns
returns c =
    let watch = c.args.watch.now in
    let history = history_in c.args.view.now in
    first_of_from (is_watched watch) c.first_above-start.result history c.first_hit.result (low_numbers watch history c.first_above-start.result c.first_above-start.ensures.low) c.first_hit.ensures
