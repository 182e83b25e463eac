use Rattle.std.proofs.Common.{length, ◌-◌, ◌+◌, ◌≡◌, ◌≤◌, take, IfSome}
use Rattle.edge_traits.specs.Causes.{Keeps, piece_bytes}
use Rattle.edge_traits.proofs.whole.read_whole.Given as goal

-- the bytes are a prefix of the file, and no read has failed
abbrev pub invariant-loop-bytes : goal.invariant-loop-bytes
invariant-loop-bytes g l = (length l.bytes.items ≤ l.limit + 1)
    × (length l.buffer.items ≡ piece_bytes)
    × (g.S.Shelf.told l.shelf ≡ g.S.Shelf.told l.fn.shelf)
    × Keeps (g.S.Shelf.may_read l.fn.shelf) (g.S.Shelf.may_read l.shelf)
    × (g.S.Shelf.faults l.shelf ≡ g.S.Shelf.faults l.fn.shelf)
    × IfSome (g.S.Shelf.told l.fn.shelf) (λ files. l.bytes.items ≡ take (length l.bytes.items) (files l.name))

abbrev pub decreases-loop-bytes : goal.decreases-loop-bytes
decreases-loop-bytes g l = l.limit + 1 - length l.bytes.items
