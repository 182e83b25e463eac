use Rattle.std.proofs.Common.{List, Some, [], ap, rules, subst, sym, ◌+◌, ◌++◌, ◌∙◌, ◌≡◌, ◌≤◌, ◌∷◌, false, None}
use Rattle.std.specs.Option.{option_map}
use Rattle.std.specs.Prelude.{Err, Ok, OnErr, Result, vec_capacity, vec_len}
use Rattle.node_core.proofs.Claims.{claim_held, claim_kept, claim_room, claim_there, claim_waits}
use Rattle.node_core.specs.Core.{Core, MayAsk, world_of}
use Rattle.node_core.specs.Rows.{count_held, put_row, row_at}
use Rattle.node_core.specs.declared.jobs.Stage.TheVariants.{Held}
use Rattle.node_model.specs.History.{time_at}
use Rattle.node_model.specs.Journals.{world}
use Rattle.node_model.specs.Steps.{ToClaim, chosen}
use Rattle.node_model.specs.declared.journal.Entry.{Entry}
use Rattle.node_model.specs.declared.journal.Event.TheVariants.{Claim}
use Rattle.proc_syntax.specs.declared.call.Tx.{Tx}
use Rattle.node_core.proofs.node.NodeCore.claim.Goals as goal

pub share_tx-requires : goal.share_tx-requires
share_tx-requires g c =
    let s = c.self.inside in
    let view : record { app = s.chain.app.value.app; journal = s.journal.items } ≡ c.args.self.now = c.self.view_is ∙ c.choose.ensures.same in
    let is : chosen c.args.self.now.app (world_of c.args.self.now) c.args.pick ≡ Some c.in-Some.job = search rules in
    claim_there _ c.self.invariant.0 c.args.actor c.in-Some.job c.args.pick (subst (λ (core : Core). MayAsk core c.args.actor (ToClaim c.args.pick)) (sym view) c.requires.free)
    (ap (λ (core : Core). chosen core.app (world_of core) c.args.pick) view ∙ is)

pub hold-requires : goal.hold-requires
hold-requires g c =
    let s = c.self.inside in
    let view : record { app = s.chain.app.value.app; journal = s.journal.items } ≡ c.args.self.now = c.self.view_is ∙ c.choose.ensures.same in
    let is : chosen c.args.self.now.app (world_of c.args.self.now) c.args.pick ≡ Some c.in-Some.job = search rules in
    claim_waits _ c.self.invariant.0 c.args.actor c.in-Some.job c.args.pick (subst (λ (core : Core). MayAsk core c.args.actor (ToClaim c.args.pick)) (sym view) c.requires.free)
    (ap (λ (core : Core). chosen core.app (world_of core) c.args.pick) view ∙ is)

pub invariant_of-self-in-Some : goal.invariant_of-self-in-Some
invariant_of-self-in-Some g c =
    let s = c.self.inside in
    let view : record { app = s.chain.app.value.app; journal = s.journal.items } ≡ c.args.self.now = c.self.view_is ∙ c.choose.ensures.same in
    let chose : chosen c.args.self.now.app (world_of c.args.self.now) c.args.pick ≡ Some c.in-Some.job = search rules in
    let is = ap (λ (core : Core). chosen core.app (world_of core) c.args.pick) view ∙ chose in
    let may = subst (λ (core : Core). MayAsk core c.args.actor (ToClaim c.args.pick)) (sym view) c.requires.free in
    let more : c.push_reserved.new.self.items ≡ s.journal.items ++ record { actor = c.args.actor; event = Claim c.in-Some.job } ∷ [] = search rules in
    let rows : c.hold.new.self ≡ put_row s.jobs c.in-Some.job (Held c.args.actor) = search rules in
    let fits : vec_len c.make_room.new.journal + 2 + count_held s.jobs ≤ vec_capacity c.push_reserved.new.self = search rules in
    let longer : vec_len c.push_reserved.new.self ≡ vec_len c.make_room.new.journal + 1 = search rules in (
      claim_kept _ c.self.invariant.0 c.args.actor c.in-Some.job c.args.pick may is c.push_reserved.new.self.items more c.hold.new.self rows,
      claim_room _ c.self.invariant.0 c.args.actor c.in-Some.job c.args.pick may is c.hold.new.self (vec_len c.push_reserved.new.self) (vec_len c.make_room.new.journal) (vec_capacity c.push_reserved.new.self) rows fits
          longer,
    )

pub returns-in_ok-work-in-Some-clause-held : goal.returns-in_ok-work-in-Some-clause-held
returns-in_ok-work-in-Some-clause-held g c =
    let s = c.self.inside in
    let view : record { app = s.chain.app.value.app; journal = s.journal.items } ≡ c.args.self.now = c.self.view_is ∙ c.choose.ensures.same in
    let chose : chosen c.args.self.now.app (world_of c.args.self.now) c.args.pick ≡ Some c.in-Some.job = search rules in
    let is = ap (λ (core : Core). chosen core.app (world_of core) c.args.pick) view ∙ chose in
    let may = subst (λ (core : Core). MayAsk core c.args.actor (ToClaim c.args.pick)) (sym view) c.requires.free in
    let more : c.push_reserved.new.self.items ≡ s.journal.items ++ record { actor = c.args.actor; event = Claim c.in-Some.job } ∷ [] = search rules in
    let tx = c.in_ok-tx-in-Some.tx.value in
    let shares : option_map (λ row. row.tx.value) (row_at s.jobs c.in-Some.job) ≡ Some tx = search rules in
    let told : c.in_ok-machine-in-Some.machine ≡ record { app = s.chain.app.value.app; tx = tx; time = c.time_of-time.result; fed = []; asks = None; ended = false } = search rules in
    let work : c.in_ok-work-in-Some.work ≡ record { job = c.in-Some.job; actor = c.args.actor; told = c.in_ok-machine-in-Some.machine; cut = false; gone = false } = search rules in
    let sealed = (world s.chain.app.value.app s.journal.items).sealed in
    let time : c.time_of-time.result ≡ time_at tx.height sealed = c.time_of-time.ensures sealed c.self.invariant.0.holds ∙ ap (λ (t : Tx). time_at t.height sealed) c.deref.ensures in
    claim_held _ c.self.invariant.0 c.args.actor c.in-Some.job c.args.pick may is c.push_reserved.new.self.items more c.in_ok-work-in-Some.work c.in_ok-machine-in-Some.machine tx c.time_of-time.result work told shares time

-- what holds whatever a result is holds where it is a failure
on_err : {A E P : Type 0} (result : Result A E) → P → OnErr result P
on_err (Ok value) holds = tt
on_err (Err error) holds = holds

-- room alone was asked for
pub returns-in_err-make_room-in-Some-clause-err : goal.returns-in_err-make_room-in-Some-clause-err
returns-in_err-make_room-in-Some-clause-err g c =
    let s = c.self.inside in
    let core : List Entry → Core = λ items. record { app = s.chain.app.value.app; journal = items } in
    let same : c.make_room.new.journal.items ≡ s.journal.items = search rules in
    on_err c.from_residual.result (ap core same ∙ c.self.view_is ∙ c.choose.ensures.same)
