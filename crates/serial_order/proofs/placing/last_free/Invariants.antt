use Rattle.std.proofs.Common.{drop, length, reverse, take, ◌++◌, ◌≡◌, ◌≤◌}
use Rattle.std.specs.Option.{option_map}
use Rattle.node_model.specs.Order.{take_first}
use Rattle.serial_order.proofs.placing.last_free.Given as goal
use Rattle.serial_order.specs.Counts.{has_none}

-- the first in reverse order is in what is left
abbrev pub invariant-loop-index : goal.invariant-loop-index
invariant-loop-index l =
    (take_first has_none (reverse l.left) ≡ option_map (λ taken. (taken.0, reverse (drop l.index l.left) ++ taken.1)) (take_first has_none (reverse (take l.index l.left)))) × (l.index ≤ length l.left)
