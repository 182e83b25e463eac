use Rattle.std.proofs.Common.{sym, ◌∙◌}
use Rattle.std.specs.Option.{option_copied}
use Rattle.version_index.proofs.Cells.{unless_other, unless_same}
use Rattle.version_index.proofs.column.unless.Goals as goal

pub returns-then-is_same : goal.returns-then-is_same
returns-then-is_same c v = unless_same v (option_copied c.args.value) (option_copied c.args.other) (sym c.is_same.ensures ∙ c.if-is_same.true)

pub returns-else-is_same : goal.returns-else-is_same
returns-else-is_same c v = unless_other v (option_copied c.args.value) (option_copied c.args.other) (sym c.is_same.ensures ∙ c.if-is_same.false)
