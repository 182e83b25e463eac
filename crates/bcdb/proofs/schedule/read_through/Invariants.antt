use Rattle.std.proofs.Common.{length, ◌-◌, ◌≡◌, ◌≤◌}
use Rattle.bcdb.specs.ScheduleReading.{HasFed}
use Rattle.edge_traits.specs.Causes.{Keeps}
use Rattle.tx_text.specs.Listing.{longest_listing}
use Rattle.bcdb.proofs.schedule.read_through.Given as goal

-- so many bytes of the file were read, no read has failed, and the shelf stands as at first
abbrev pub invariant-loop-count : goal.invariant-loop-count
invariant-loop-count g l = (l.at ≤ longest_listing)
    × (length l.buffer ≡ 65536)
    × (g.S.Shelf.told l.shelf ≡ g.S.Shelf.told l.fn.shelf)
    × Keeps (g.S.Shelf.may_read l.fn.shelf) (g.S.Shelf.may_read l.shelf)
    × (g.S.Shelf.faults l.shelf ≡ g.S.Shelf.faults l.fn.shelf)
    × HasFed (g.S.Shelf.told l.fn.shelf) l.name l.at l.reader

abbrev pub decreases-loop-count : goal.decreases-loop-count
decreases-loop-count g l = longest_listing - l.at
