use Rattle.std.proofs.Common.{◌+◌, ◌≡◌}
use Rattle.load_gen.specs.Blocks.{arrivals_among}
use Rattle.load_gen.proofs.arrivals.arrivals_of.Given as goal

abbrev pub invariant-loop : goal.invariant-loop
invariant-loop l = (l.arrivals ≡ arrivals_among l.load l.node l.counter) × (l.drawn.next ≡ 65 + l.counter) × (l.drawn.load ≡ l.load)
