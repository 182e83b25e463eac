use Rattle.std.proofs.Common.{◌≡◌, ◌∷◌, Some, rules}
use Rattle.query_plan.specs.Answer.{all_of}
use Rattle.query_plan.specs.Tallies.{value_of}
use Rattle.query_plan.proofs.Grouped.{more_of}
use Rattle.query_plan.proofs.group.rows_of.Goals as goal

pub loop-tallies-preserved : goal.loop-tallies-preserved
loop-tallies-preserved c =
    let next : c.loop-tallies.tallies-iterator ≡ c.in-Some.tallies ∷ c.next.new.self = search rules in
    let made : all_of value_of c.in-Some.tallies ≡ Some c.in-Some-2.row = search rules in
    more_of (all_of value_of) c.loop-tallies.rows c.push.new.self c.in-Some.tallies c.in-Some-2.row c.loop-tallies.tallies-iterator c.next.new.self _ made next c.in_ok-push-in-Some-2.ensures.ok c.loop-tallies.invariant
