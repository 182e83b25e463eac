use Rattle.std.proofs.Common.{◌∙◌, ap}
use Rattle.std.specs.Option.{option_copied}
use Rattle.version_index.specs.Columns.{has}
use Rattle.version_index.proofs.Cells.{value_itself}
use Rattle.version_index.proofs.column.touch_value.Goals as goal

-- the value is one with itself
pub touch-requires-clause-room : goal.touch-requires-clause-room
touch-requires-clause-room c = c.requires.room c.in-Some.value.now (ap (λ value. has c.in-Some.value.now (option_copied value)) c.in-Some.is ∙ value_itself c.in-Some.value.now)
