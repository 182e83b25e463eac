use Rattle.std.proofs.Common.{◌≡◌, ◌<◌, length, map, rules}
use Rattle.std.specs.Prelude.{slice_index_or}
use Rattle.proc_syntax.specs.Scope.{column_in}
use Rattle.proc_code.proofs.Walked.{mapped}
use Rattle.proc_code.proofs.places.column_places.Goals as goal

pub loop-name-preserved : goal.loop-name-preserved
loop-name-preserved c =
    let within : c.loop-name.name-index < length c.args.names.now = search rules in
    let here : slice_index_or c.args.names.now c.loop-name.name-index c.name-item.result ≡ c.name-item.result = search rules in
    mapped (λ name. map (λ def. column_in def name) c.args.tables.now) c.args.names.now c.loop-name.name-index c.name-item.result c.loop-name.columns c.push.new.self c.in_ok-places.places
    within here c.loop-name.invariant c.in_ok-push.ensures.ok c.in_ok-places.ensures
