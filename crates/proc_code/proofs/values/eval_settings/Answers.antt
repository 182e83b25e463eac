use Rattle.std.proofs.Common.{arith}
use Rattle.std.proofs.lemmas.Grind.{common_steps}
use Rattle.std.proofs.Common.{◌≡◌, ◌<◌, length, refl, rules}
use Rattle.std.specs.Prelude.{slice_index_or}
use Rattle.proc_code.specs.Coded.{set_worth, sets_worth}
use Rattle.proc_code.proofs.Walked.{gathered}
use Rattle.proc_code.proofs.values.eval_settings.Goals as goal

pub loop-setting-preserved : goal.loop-setting-preserved
loop-setting-preserved g c =
    let within : c.loop-setting.setting-index < length c.args.settings.now = search rules in
    let here : slice_index_or c.args.settings.now c.loop-setting.setting-index c.setting-item.result ≡ c.setting-item.result = search rules in
    let columns = c.args.columns.now in
    let environment = g.E.Variables.environment c.args.environment.now in
    gathered (λ x. set_worth columns x environment) (λ xs. sets_worth columns xs environment) (λ x rest. refl) c.args.settings.now c.loop-setting.setting-index c.setting-item.result c.loop-setting.values c.push.new.self c.in_ok-value.value
    (sets_worth columns c.args.settings.now environment) within here c.loop-setting.invariant c.in_ok-push.ensures.ok c.in_ok-value.ensures

pub returns-in_err-value : goal.returns-in_err-value
returns-in_err-value g c = grind (arith, common_steps)

pub returns : goal.returns
returns g c = grind (arith, common_steps)
