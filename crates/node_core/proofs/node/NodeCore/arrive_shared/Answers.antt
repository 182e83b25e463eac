use Rattle.std.proofs.Common.{[], ap, arith, length, rules, refl, subst, ◌+◌, ◌++◌, ◌∙◌, ◌≡◌, ◌≤◌, ◌∷◌}
use Rattle.std.specs.Prelude.{vec_capacity, vec_len}
use Rattle.node_core.proofs.Arrivals.{arrive_kept, arrive_stays, arrive_steps}
use Rattle.node_core.proofs.Table.{count_more}
use Rattle.node_core.specs.Answers.{arrived_as}
use Rattle.node_core.specs.Core.{Arrives, Core}
use Rattle.node_core.specs.Known.{arrival}
use Rattle.node_core.specs.Rows.{count_held, new_row}
use Rattle.node_core.specs.declared.answers.Arrived.TheVariants as arrived
use Rattle.node_model.specs.declared.journal.Event.TheVariants.{Arrive}
use Rattle.node_core.proofs.node.NodeCore.arrive_shared.Goals as goal

pub invariant_of-self-in-Queued : goal.invariant_of-self-in-Queued
invariant_of-self-in-Queued g c =
    let s = c.self.inside in
    let at : c.height-height.result ≡ length s.chain.blocks = search rules in
    let queued : arrived.Queued ≡ arrival s.chain.app.value.app s.jobs s.ids c.height-height.result s.work c.args.tx.now.value = search rules in
    let same : c.in_ok-shared-in-Queued.shared.value ≡ c.args.tx.now.value = search rules in
    let also : c.in_ok-noted-in-Queued.noted.value ≡ c.args.tx.now.value = search rules in
    let next : c.len-job.result + 1 ≡ length s.jobs + 1 = search rules in
    let more : c.push_reserved.new.self.items ≡ s.journal.items ++ record { actor = c.args.actor; event = Arrive (c.len-job.result + 1) c.in_ok-noted-in-Queued.noted } ∷ [] = search rules in
    let rows : c.add.new.self ≡ s.jobs ++ new_row c.in_ok-shared-in-Queued.shared ∷ [] = search rules in
    let fits : vec_len c.push_reserved.new.self + count_held s.jobs ≤ vec_capacity c.push_reserved.new.self = search rules in
    let counted : count_held c.add.new.self ≡ count_held s.jobs = ap count_held rows ∙ count_more s.jobs c.in_ok-shared-in-Queued.shared in (
      arrive_kept _ c.self.invariant.0 c.height-height.result at c.args.actor c.args.tx.now.value c.in_ok-shared-in-Queued.shared c.in_ok-noted-in-Queued.noted (c.len-job.result + 1) queued same also next
          c.push_reserved.new.self.items more c.add.new.self rows,
      omega (arith, fits, counted),
    )

pub returns-in_ok-add-in-Queued-clause-step : goal.returns-in_ok-add-in-Queued-clause-step
returns-in_ok-add-in-Queued-clause-step g c =
    let s = c.self.inside in
    let at : c.height-height.result ≡ length s.chain.blocks = search rules in
    let queued : arrived.Queued ≡ arrival s.chain.app.value.app s.jobs s.ids c.height-height.result s.work c.args.tx.now.value = search rules in
    let same : c.in_ok-shared-in-Queued.shared.value ≡ c.args.tx.now.value = search rules in
    let also : c.in_ok-noted-in-Queued.noted.value ≡ c.args.tx.now.value = search rules in
    let next : c.len-job.result + 1 ≡ length s.jobs + 1 = search rules in
    let more : c.push_reserved.new.self.items ≡ s.journal.items ++ record { actor = c.args.actor; event = Arrive (c.len-job.result + 1) c.in_ok-noted-in-Queued.noted } ∷ [] = search rules in
    subst (λ (old : Core). Arrives old c.args.actor c.args.tx.now.value (arrived_as arrived.Queued) (record { app = s.chain.app.value.app; journal = c.push_reserved.new.self.items })) c.self.view_is
    (arrive_steps _ c.self.invariant.0 c.height-height.result at c.args.actor c.args.tx.now.value c.in_ok-shared-in-Queued.shared c.in_ok-noted-in-Queued.noted (c.len-job.result + 1) queued same also next
    c.push_reserved.new.self.items more)

pub returns-in_default : goal.returns-in_default
returns-in_default g c =
    let s = c.self.inside in
    let at : c.height-height.result ≡ length s.chain.blocks = search rules in
    let is : c.arrival.result ≡ arrival s.chain.app.value.app s.jobs s.ids c.height-height.result s.work c.args.tx.now.value = search rules in
    record {
      step = subst (λ (old : Core). Arrives old c.args.actor c.args.tx.now.value (arrived_as c.arrival.result) old) c.self.view_is
          (arrive_stays _ c.self.invariant.0 c.height-height.result at c.args.actor c.args.tx.now.value (record { ptr = s.chain.app.ptr; value = c.args.tx.now.value }) c.arrival.result refl is c.in_default.not-Queued);
      err = tt;
    }
