use Rattle.std.proofs.Common.{IfOk, IfSome, List, Option, rules, subst, sym, ◌≡◌, ℕ}
use Rattle.std.specs.Prelude.{Err, Ok}
use Rattle.bcdb.proofs.Asked.{bad_told}
use Rattle.bcdb.proofs.Giving.{blocks_counted, blocks_turned}
use Rattle.bcdb.proofs.asking.answer_ask.Goals as goal
use Rattle.bcdb.specs.Given.{AreInputs}
use Rattle.bcdb.specs.Plan.{BlocksFile, Counted, RoseAt, planned}
use Rattle.edge_traits.specs.Causes.{Counts}

pub returns-in-Ok-Ok-clause-turn : goal.returns-in-Ok-Ok-clause-turn
returns-in-Ok-Ok-clause-turn g c =
    let asked = c.args.asked.now in
    let now = g.S.Shelf.faults c.answer_inputs.new.shelf in
    let are : IfSome (g.S.Shelf.told c.args.shelf.now) (AreInputs (Ok c.in-Ok-Ok.inputs) asked) = search rules in
    blocks_turned c.answer_inputs.result (g.S.Shelf.told c.args.shelf.now) asked c.in-Ok-Ok.inputs (g.S.Shelf.faults c.args.shelf.now) now are
    (subst (λ (counts : Counts). Counted c.answer_inputs.result (RoseAt (planned BlocksFile asked.blocks) counts now) counts now) c.in-Ok-Ok.ensures.counted c.answer_inputs.ensures.counted)

pub returns-in-Ok-Ok-clause-counted : goal.returns-in-Ok-Ok-clause-counted
returns-in-Ok-Ok-clause-counted g c =
    let asked = c.args.asked.now in
    let now = g.S.Shelf.faults c.answer_inputs.new.shelf in
    blocks_counted c.answer_inputs.result asked (g.S.Shelf.faults c.args.shelf.now) now
    (subst (λ (counts : Counts). Counted c.answer_inputs.result (RoseAt (planned BlocksFile asked.blocks) counts now) counts now) c.in-Ok-Ok.ensures.counted c.answer_inputs.ensures.counted)
