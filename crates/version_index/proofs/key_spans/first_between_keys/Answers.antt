use Rattle.std.proofs.Common.{◌≤◌, ◌⊎◌, None}
use Rattle.row_sets.specs.Watched.{is_watched}
use Rattle.version_index.specs.Hits.{IsNumberBetween, IsOnKeyBetween}
use Rattle.version_index.specs.Numbers.{passes_at}
use Rattle.version_index.specs.View.{history_in}
use Rattle.version_index.proofs.Lowering.{lowers_first, lowers_from, lowers_then}
use Rattle.version_index.proofs.Watching.{read_fits_table}
use Rattle.version_index.proofs.key_spans.first_between_keys.Goals as goal

pub first_hit-first-requires-clause-fits : goal.first_hit-first-requires-clause-fits
first_hit-first-requires-clause-fits c = read_fits_table c.args.watch.now.def.now c.args.watch.now.read.now c.args.view.now c.requires.watch

pub returns-then-has_more : goal.returns-then-has_more
returns-then-has_more c =
    lowers_first (is_watched c.args.watch.now) (history_in c.args.view.now) c.first_above_that_hits.result (IsOnKeyBetween c.args.view.now c.args.ends.now.low c.args.ends.now.high) c.first_above_that_hits.ensures

-- first the tail, then the keys with a row, then those whose row was deleted
pub returns : goal.returns
returns c =
    let view = c.args.view.now in
    let test = is_watched c.args.watch.now in
    let hit = passes_at test (history_in view) in
    let low = c.args.ends.now.low in
    let high = c.args.ends.now.high in
    let chains = view.index.now.chains in
    let living = IsNumberBetween chains chains.living.entries low high in
    let ended = IsNumberBetween chains chains.ended.entries low high in
    lowers_then hit None c.first_hit-first.result c.first_on_keys.result (λ j. view.noted ≤ j) (λ j. living j ⊎ ended j) (IsOnKeyBetween view low high) (λ j wanted is. wanted)
    (lowers_from test (history_in view) view.noted c.first_hit-first.result c.first_hit-first.ensures)
    (lowers_then hit c.first_hit-first.result c.first_on_keys-living.result c.first_on_keys.result living ended (λ j. living j ⊎ ended j) (λ j wanted is. wanted) c.first_on_keys-living.ensures c.first_on_keys.ensures)
