use Rattle.std.proofs.Common.{All, ◌≡◌, ℕ}
use Rattle.bcdb.proofs.Gathering.{Gathers}
use Rattle.edge_traits.specs.Causes.{Keeps}
use Rattle.order_queue.specs.Orders.{IsSubmission}
use Rattle.bcdb.proofs.node_arrivals.read_all_arrivals.Given as goal

-- what arrives at the nodes before this one was read, no read has failed, the shelf stands as at first, and clients may submit what was read
abbrev pub invariant-loop-node : goal.invariant-loop-node
invariant-loop-node g l = (g.S.Shelf.told l.shelf ≡ g.S.Shelf.told l.fn.shelf)
    × (g.S.Shelf.faults l.shelf ≡ g.S.Shelf.faults l.fn.shelf)
    × ((left : ℕ) × Gathers l.prefix l.nodes (g.S.Shelf.told l.fn.shelf) (g.S.Shelf.may_read l.shelf) l.node l.all left)
    × Keeps (g.S.Shelf.may_read l.fn.shelf) (g.S.Shelf.may_read l.shelf)
    × All IsSubmission l.all
