use Rattle.std.proofs.Common.{◌≡◌, map, take}
use Rattle.query_plan.specs.Answer.{alone}
use Rattle.query_plan.specs.Tallies.{tally_of}
use Rattle.query_plan.proofs.tally.start_all.Given as goal

abbrev pub invariant-loop-item : goal.invariant-loop-item
invariant-loop-item l = l.tallies ≡ map (tally_of (alone l.tuple)) (take l.item-index l.items)
