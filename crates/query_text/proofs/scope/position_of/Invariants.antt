use Rattle.std.proofs.Common.{◌≡◌, drop}
use Rattle.std.specs.List.{position_from}
use Rattle.query_text.specs.Walk.{is_named}
use Rattle.query_text.proofs.scope.position_of.Given as goal

abbrev pub invariant-loop-i : goal.invariant-loop-i
invariant-loop-i l = position_from (is_named l.name) l.i (drop l.i l.names) ≡ position_from (is_named l.name) 0 l.names
