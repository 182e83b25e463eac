use Rattle.std.proofs.Common.{ap, subst, sym}
use Rattle.std.specs.Option.{option_copied}
use Rattle.row_sets.proofs.Endings.{on_ok_then}
use Rattle.version_index.specs.Columns.{IsRoomy}
use Rattle.version_index.proofs.Cells.{roomy_one}
use Rattle.version_index.proofs.column.hold_value.Goals as goal

-- the room of the value that is there
pub returns-in-Some-clause-room : goal.returns-in-Some-clause-room
returns-in-Some-clause-room c =
    on_ok_then c.hold_number.result
    (λ room. subst (IsRoomy c.hold_number.new.touched) (sym (ap option_copied c.in-Some.is)) (roomy_one c.hold_number.new.touched c.in-Some.value.now room))
    c.hold_number.ensures.room
