use Rattle.std.proofs.Common.{◌≡◌, ◌<◌, length, rules}
use Rattle.std.specs.Prelude.{slice_index_or}
use Rattle.proc_code.specs.Resolved.{setting_of}
use Rattle.proc_code.proofs.Walked.{mapped}
use Rattle.proc_code.proofs.statements.resolve_settings.Goals as goal

pub loop-change-preserved : goal.loop-change-preserved
loop-change-preserved c =
    let within : c.loop-change.change-index < length c.args.changes.now = search rules in
    let here : slice_index_or c.args.changes.now c.loop-change.change-index c.change-item.result ≡ c.change-item.result = search rules in
    let resolver = c.args.resolver.now in
    mapped (setting_of resolver.tables.now resolver.columns.now resolver.names.now c.args.table.now) c.args.changes.now c.loop-change.change-index c.change-item.result c.loop-change.settings c.push.new.self c.in_ok-setting.setting
    within here c.loop-change.invariant c.in_ok-push.ensures.ok c.in_ok-setting.ensures
