use Rattle.std.proofs.Common.{◌≡◌, drop}
use Rattle.proc_eval.proofs.Lists.{after}
use Rattle.proc_code.specs.Coded.{sets_worth}
use Rattle.proc_code.proofs.values.eval_settings.Given as goal

-- the columns so far, and those of the rest
abbrev pub invariant-loop-setting : goal.invariant-loop-setting
invariant-loop-setting g l = after l.values (sets_worth l.columns (drop l.setting-index l.settings) (g.E.Variables.environment l.environment)) ≡ sets_worth l.columns l.settings (g.E.Variables.environment l.environment)
