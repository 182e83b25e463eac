use Rattle.std.proofs.Common.{ap, is_some}
use Rattle.std.specs.Option.{option_copied}
use Rattle.version_index.proofs.Cells.{gone_apart}
use Rattle.version_index.proofs.column.gone.Goals as goal

-- the value after is another one
pub returns-in_default : goal.returns-in_default
returns-in_default c = gone_apart (option_copied c.args.found) (option_copied c.args.after) (option_copied c.args.other) c.requires (ap (λ other. is_some (option_copied other)) c.in_default.is-1)
