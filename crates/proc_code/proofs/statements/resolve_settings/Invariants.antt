use Rattle.std.proofs.Common.{◌≡◌, ◌++◌, drop, map}
use Rattle.proc_code.specs.Resolved.{setting_of}
use Rattle.proc_code.proofs.statements.resolve_settings.Given as goal

-- the settings so far, and those of the rest
abbrev pub invariant-loop-change : goal.invariant-loop-change
invariant-loop-change l = l.settings ++ map (setting_of l.resolver.tables.now l.resolver.columns.now l.resolver.names.now l.table) (drop l.change-index l.changes) ≡ map (setting_of l.resolver.tables.now l.resolver.columns.now l.resolver.names.now l.table) l.changes
