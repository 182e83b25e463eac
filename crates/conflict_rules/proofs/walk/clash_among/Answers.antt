use Rattle.std.proofs.Common.{Some, None, length, refl, rules, slice_get, ◌≡◌}
use Rattle.std.proofs.lemmas.Option.{slice_get_read}
use Rattle.conflict_rules.proofs.Passed.{clash_here, clash_later, clash_none}
use Rattle.conflict_rules.proofs.walk.clash_among.Goals as goal
use Rattle.conflict_rules.specs.Marking.{NoneFound}
use Rattle.node_model.specs.Decide.{first_shared}

pub returns-in-Some-first_shared : goal.returns-in-Some-first_shared
returns-in-Some-first_shared c =
    let at : slice_get c.args.committed.now c.in-Some.number ≡ Some c.index-committed-number.result =
    slice_get_read c.args.committed.now (length c.args.committed.now) c.in-Some.number c.index-committed-number.result refl c.in-Some.ensures.1 c.index-committed-number.is in
    let shared : first_shared c.index-committed-number.result.writes c.args.writes.now ≡ Some c.in-Some-first_shared.index = search rules in
    clash_here c.args.writes.now c.args.found.now c.args.committed.now c.requires.only c.loop-number.from c.in-Some.number c.index-committed-number.result c.in-Some-first_shared.index
    c.loop-number.invariant.0 c.in-Some.ensures.0 c.in-Some.ensures.2 at shared

pub loop-number-preserved : goal.loop-number-preserved
loop-number-preserved c =
    let at : slice_get c.args.committed.now c.in-Some.number ≡ Some c.index-committed-number.result =
    slice_get_read c.args.committed.now (length c.args.committed.now) c.in-Some.number c.index-committed-number.result refl c.in-Some.ensures.1 c.index-committed-number.is in
    let shared : first_shared c.index-committed-number.result.writes c.args.writes.now ≡ None = search rules in (
      clash_later c.args.writes.now c.args.found.now c.args.committed.now c.requires.only c.loop-number.from c.in-Some.number c.index-committed-number.result
          c.loop-number.invariant.0 c.in-Some.ensures.0 c.in-Some.ensures.2 at shared,
      search rules,
    )

pub returns : goal.returns
returns c =
    let none : NoneFound c.args.found.now c.loop-number.from (length c.args.committed.now) = search rules in
    clash_none c.args.writes.now c.args.found.now c.args.committed.now c.requires.only c.loop-number.from c.loop-number.invariant.0 c.loop-number.invariant.1 none
