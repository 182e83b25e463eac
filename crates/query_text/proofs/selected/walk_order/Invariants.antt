use Rattle.std.proofs.Common.{◌≡◌, drop}
use Rattle.query_text.specs.Walk.{each, walk_number, with_made}
use Rattle.query_text.proofs.selected.walk_order.Given as goal

abbrev pub invariant-loop-number : goal.invariant-loop-number
invariant-loop-number l = with_made l.made (each (walk_number l.items) (drop l.number-index l.numbers)) ≡ each (walk_number l.items) l.numbers
