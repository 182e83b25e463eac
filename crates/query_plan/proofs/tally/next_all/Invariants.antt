use Rattle.std.proofs.Common.{◌≡◌, drop}
use Rattle.query_plan.proofs.Nexts.{nexts_from}
use Rattle.query_plan.specs.Tallies.{next_tallies}
use Rattle.query_plan.proofs.tally.next_all.Given as goal

abbrev pub invariant-loop-i : goal.invariant-loop-i
invariant-loop-i l = nexts_from l.tuple l.i (drop l.i l.items) l.tallies ≡ next_tallies l.tuple l.fn.tallies l.items
