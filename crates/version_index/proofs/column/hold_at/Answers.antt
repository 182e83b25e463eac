use Rattle.std.proofs.Common.{ap, subst, sym}
use Rattle.std.specs.Option.{option_copied}
use Rattle.row_sets.proofs.Endings.{on_ok_then}
use Rattle.version_index.specs.Columns.{IsHeld}
use Rattle.version_index.proofs.Cells.{held_one}
use Rattle.version_index.proofs.column.hold_at.Goals as goal

-- the slot is held at the value that is there
pub returns-in-Some-clause-held : goal.returns-in-Some-clause-held
returns-in-Some-clause-held c =
    let living = c.hold_slot.new.living.entries in
    on_ok_then c.hold_slot.result (λ held. subst (λ row. IsHeld living row c.args.slot) (sym (ap option_copied c.in-Some.is)) (held_one living c.in-Some.value.now c.args.slot held)) c.hold_slot.ensures.held
