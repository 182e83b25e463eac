use Rattle.std.proofs.Common.{IfSome, List, Option, refl, rules, subst, sym, ◌≡◌}
use Rattle.std.specs.Prelude.{Err, Ok, Result}
use Rattle.bcdb.proofs.Giving.{after_arrivals, arrivals_bad, arrivals_failed, arrivals_turn}
use Rattle.bcdb.proofs.Planning.{allows_first, counted_first, counted_rest}
use Rattle.bcdb.proofs.given.read_from_arrivals.Goals as goal
use Rattle.bcdb.specs.ArrivalFiles.{all_arrived}
use Rattle.bcdb.specs.Plan.{AllowsPlan, Counted, RoseAt, RoseIn, arrivals_plan, plan_from_schedule}
use Rattle.bcdb.specs.declared.given.BadSource.{BadSource}
use Rattle.bcdb.specs.declared.given.Inputs.{Inputs}
use Rattle.bcdb.specs.declared.refusal.BadArrivals.{BadArrivals}
use Rattle.edge_traits.specs.Causes.{Counts}
use Rattle.edge_traits.specs.Shelf.{Files}
use Rattle.proc_syntax.specs.declared.call.Tx.{Tx}

pub read_all_arrivals-requires : goal.read_all_arrivals-requires
read_all_arrivals-requires g c =
    let asked = c.args.asked.now in
    record {
      allowed = allows_first (arrivals_plan asked.arrivals 1 asked.nodes) (plan_from_schedule asked) (g.S.Shelf.told c.args.shelf.now) (g.S.Shelf.may_read c.args.shelf.now) c.requires.allowed;
    }

pub read_from_schedule-requires : goal.read_from_schedule-requires
read_from_schedule-requires g c =
    let told = g.S.Shelf.told c.args.shelf.now in
    let asked = c.args.asked.now in
    let new = g.S.Shelf.may_read c.read_all_arrivals.new.shelf in
    let is : IfSome told (λ files. all_arrived asked.arrivals 1 asked.nodes files ≡ Ok c.in-Ok-Ok.arrivals) = search rules in
    record {
      allowed = subst (λ (t : Option Files). AllowsPlan (plan_from_schedule asked) t new) (sym c.read_all_arrivals.ensures.same)
          (after_arrivals told (g.S.Shelf.may_read c.args.shelf.now) new asked c.in-Ok-Ok.arrivals c.requires.allowed c.read_all_arrivals.ensures.allowed is);
    }

pub returns-in-Ok-Ok-clause-turn : goal.returns-in-Ok-Ok-clause-turn
returns-in-Ok-Ok-clause-turn g c =
    let told = g.S.Shelf.told c.args.shelf.now in
    let asked = c.args.asked.now in
    let before = g.S.Shelf.faults c.args.shelf.now in
    let now = g.S.Shelf.faults c.read_from_schedule.new.shelf in
    let is : IfSome told (λ files. all_arrived asked.arrivals 1 asked.nodes files ≡ Ok c.in-Ok-Ok.arrivals) = search rules in
    λ failed.
    let turn : IfSome told (λ files. RoseIn (plan_from_schedule asked) files before now) =
    subst (λ (t : Option Files). IfSome t (λ files. RoseIn (plan_from_schedule asked) files before now)) c.read_all_arrivals.ensures.same
    (subst (λ (counts : Counts). IfSome (g.S.Shelf.told c.read_all_arrivals.new.shelf) (λ files. RoseIn (plan_from_schedule asked) files counts now)) c.in-Ok-Ok.ensures.counted
    (c.read_from_schedule.ensures.turn failed)) in
    arrivals_turn told asked c.in-Ok-Ok.arrivals before now is turn

pub returns-in-Ok-Ok-clause-counted : goal.returns-in-Ok-Ok-clause-counted
returns-in-Ok-Ok-clause-counted g c =
    let asked = c.args.asked.now in
    let now = g.S.Shelf.faults c.read_from_schedule.new.shelf in
    counted_rest c.read_from_schedule.result (arrivals_plan asked.arrivals 1 asked.nodes) (plan_from_schedule asked) (g.S.Shelf.faults c.args.shelf.now) now
    (subst (λ (counts : Counts). Counted c.read_from_schedule.result (RoseAt (plan_from_schedule asked) counts now) counts now) c.in-Ok-Ok.ensures.counted c.read_from_schedule.ensures.counted)

pub returns-in-Ok-Err-clause-told : goal.returns-in-Ok-Err-clause-told
returns-in-Ok-Err-clause-told g c =
    let told = g.S.Shelf.told c.args.shelf.now in
    let asked = c.args.asked.now in
    let is : IfSome told (λ files. all_arrived asked.arrivals 1 asked.nodes files ≡ Err c.in-Ok-Err.bad) = search rules in
    arrivals_bad told asked _ c.in-Ok-Err.bad is

pub returns-in-Err-clause-turn : goal.returns-in-Err-clause-turn
returns-in-Err-clause-turn g c = λ failed.
    arrivals_failed (g.S.Shelf.told c.args.shelf.now) c.args.asked.now c.read_all_arrivals.result _ c.in-Err.fault (g.S.Shelf.faults c.args.shelf.now)
    (g.S.Shelf.faults c.read_all_arrivals.new.shelf) c.read_all_arrivals.ensures.turn c.in-Err.is refl failed

pub returns-in-Err-clause-counted : goal.returns-in-Err-clause-counted
returns-in-Err-clause-counted g c =
    let asked = c.args.asked.now in
    counted_first (Result (List (List Tx)) BadArrivals) (Result Inputs BadSource) c.in-Err.fault (arrivals_plan asked.arrivals 1 asked.nodes) (plan_from_schedule asked) (g.S.Shelf.faults c.args.shelf.now)
    (g.S.Shelf.faults c.read_all_arrivals.new.shelf) c.in-Err.ensures.counted
