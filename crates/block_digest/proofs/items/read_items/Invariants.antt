use Rattle.std.proofs.Common.{◌≡◌, ◌-◌}
use Rattle.canon_code.specs.Parts.{items_at}
use Rattle.canon_code.proofs.Loop.{with_items}
use Rattle.block_digest.proofs.items.read_items.Given as goal

-- what was read and what is left to read make the whole
abbrev pub invariant-loop : goal.invariant-loop
invariant-loop g l = with_items l.items (items_at (g.T.Item.item_at l.count) (l.times - l.counter) l.rest) ≡ items_at (g.T.Item.item_at l.count) l.times l.bytes
