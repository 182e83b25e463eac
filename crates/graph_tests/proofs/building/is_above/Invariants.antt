use Rattle.std.proofs.Common.{drop, ◌≡◌}
use Rattle.std.specs.List.{list_all}
use Rattle.std.specs.Prelude.{nat_lt}
use Rattle.graph_tests.proofs.building.is_above.Given as goal

-- what is left decides the whole
abbrev pub invariant-loop-other : goal.invariant-loop-other
invariant-loop-other l = list_all (λ other. nat_lt other l.pos) (drop l.other-index l.positions) ≡ list_all (λ other. nat_lt other l.pos) l.positions
