use Rattle.std.proofs.Common.{length, ◌-◌, ◌≡◌, ◌≤◌}
use Rattle.bcdb.specs.Plan.{AllowsBlocks}
use Rattle.bcdb.specs.Reading.{IsRead}
use Rattle.chain_file.specs.Text.{longest_file}
use Rattle.bcdb.proofs.blocks.read_through.Given as goal

-- so many bytes of the file were read, no read has failed, and the shelf stands as at first
abbrev pub invariant-loop-count : goal.invariant-loop-count
invariant-loop-count g l = (l.at ≤ longest_file)
    × (length l.buffer ≡ 65536)
    × (g.S.Shelf.told l.shelf ≡ g.S.Shelf.told l.fn.shelf)
    × AllowsBlocks (g.S.Shelf.told l.shelf) (g.S.Shelf.may_read l.shelf) l.name
    × (g.S.Shelf.faults l.shelf ≡ g.S.Shelf.faults l.fn.shelf)
    × (g.I.Intake.runs l.intake ≡ g.I.Intake.runs l.fn.intake)
    × IsRead (g.S.Shelf.told l.fn.shelf) l.name l.at (g.I.Intake.took l.intake)

abbrev pub decreases-loop-count : goal.decreases-loop-count
decreases-loop-count g l = longest_file - l.at
