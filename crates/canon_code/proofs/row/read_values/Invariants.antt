use Rattle.std.proofs.Common.{◌≡◌, ◌-◌}
use Rattle.canon_code.specs.Parts.{items_at}
use Rattle.canon_code.specs.Values.{value_at}
use Rattle.canon_code.proofs.Loop.{with_items}
use Rattle.canon_code.proofs.row.read_values.Given as goal

abbrev pub invariant-loop : goal.invariant-loop
invariant-loop l = with_items l.values (items_at value_at (l.count - l.counter) l.rest) ≡ items_at value_at l.count l.bytes
