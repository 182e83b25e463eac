use Rattle.std.proofs.Common.{None, Some, [], ap, arith, false, length, map, rules, subst, sym, ◌+◌, ◌++◌, ◌==◌, ◌∙◌, ◌≡◌, ◌≤◌, ◌∷◌}
use Rattle.std.specs.Prelude.{vec_capacity, vec_len}
use Rattle.block_work.specs.Block.{work_of}
use Rattle.node_core.proofs.Deliveries.{deliver_in_work, deliver_kept, deliver_not_next, deliver_steps}
use Rattle.node_core.proofs.Table.{count_many}
use Rattle.node_core.specs.Core.{Core, Delivers}
use Rattle.node_core.specs.Fresh.{fresh_in}
use Rattle.node_core.specs.Rows.{count_held, new_row}
use Rattle.node_model.specs.Fold.{no_work}
use Rattle.node_model.specs.Steps.{InWork, NotNext, Shared, Taken}
use Rattle.node_model.specs.declared.journal.Event.TheVariants.{Deliver}
use Rattle.proc_syntax.specs.Declaring.{tables_of}
use Rattle.proc_syntax.specs.declared.call.Block.{Block}
use Rattle.node_core.proofs.node.NodeCore.deliver_shared.Goals as goal

pub returns-in-Some-clause-step : goal.returns-in-Some-clause-step
returns-in-Some-clause-step g c =
    let s = c.self.inside in
    let here : s.work ≡ Some c.in-Some.working = search rules in
    subst (λ (b : Block). Delivers c.args.self.now c.args.actor c.args.block.now.value (InWork b.number) c.args.self.now) (sym c.get.ensures)
    (subst (λ (core : Core). Delivers core c.args.actor c.args.block.now.value (InWork c.in-Some.working.block.value.number) core) c.self.view_is
    (deliver_in_work _ c.self.invariant.0 c.args.actor c.in-Some.working (record { ptr = s.chain.app.ptr; value = c.args.block.now.value }) here))

pub returns-then-deref-expected-clause-step : goal.returns-then-deref-expected-clause-step
returns-then-deref-expected-clause-step g c =
    let s = c.self.inside in
    let none : s.work ≡ None = search rules in
    let next : c.next_number-expected.result ≡ length s.chain.blocks + 1 = search rules in
    let other : (c.args.block.now.value.number == c.next_number-expected.result) ≡ false = search rules in
    subst (λ (core : Core). Delivers core c.args.actor c.args.block.now.value (NotNext c.next_number-expected.result) core) c.self.view_is
    (deliver_not_next _ c.self.invariant.0 c.args.actor (record { ptr = s.chain.app.ptr; value = c.args.block.now.value }) c.next_number-expected.result none next other)

pub invariant_of-self-2 : goal.invariant_of-self-2
invariant_of-self-2 g c =
    let s = c.self.inside in
    let none : s.work ≡ None = search rules in
    let shared : c.in_ok-shared.shared.value ≡ c.args.block.now.value = search rules in
    let noted : c.in_ok-noted.noted.value ≡ c.args.block.now.value = search rules in
    let next : c.args.block.now.value.number ≡ length s.chain.blocks + 1 = search rules in
    let more : c.push_reserved.new.self.items ≡ s.journal.items ++ record { actor = c.args.actor; event = Deliver c.in_ok-noted.noted } ∷ [] = search rules in
    let made : map (λ tx. tx.value) c.in_ok-fresh.fresh.items ≡ fresh_in s.chain.app.value.app s.ids s.jobs c.args.block.now.value.number c.args.block.now.value.txs 0 c.args.block.now.value.txs = search rules in
    let rows : c.add_all.new.self ≡ s.jobs ++ map new_row c.in_ok-fresh.fresh.items = search rules in
    let begun : work_of c.new.result ≡ no_work = search rules in
    let number : c.new.result.number ≡ c.args.block.now.value.number = search rules in
    let time : c.new.result.time ≡ c.args.block.now.value.time = search rules in
    let indexed : c.new-2.result.value ≡ c.args.block.now.value = ap (λ (b : Shared Block). b.value) c.new-2.ensures ∙ shared in
    let fits : vec_len c.push_reserved.new.self + count_held s.jobs ≤ vec_capacity c.push_reserved.new.self = search rules in
    let counted : count_held c.add_all.new.self ≡ count_held s.jobs = ap count_held rows ∙ count_many s.jobs c.in_ok-fresh.fresh.items in (
      deliver_kept _ c.self.invariant.0 c.args.actor none c.requires.processor c.in_ok-shared.shared c.in_ok-noted.noted (shared ∙ sym noted) (ap (λ (b : Block). b.number) noted ∙ next) c.push_reserved.new.self.items more
          (record { block = c.new-2.result; done = c.new.result }) c.in_ok-fresh.fresh.items c.add_all.new.self (indexed ∙ sym noted) begun
          (record { number = number ∙ sym (ap (λ (b : Block). b.number) indexed); time = time ∙ sym (ap (λ (b : Block). b.time) indexed); consistent = c.new.ensures.consistent (tables_of s.chain.app.value.app) })
          (made ∙ ap (λ (b : Block). fresh_in s.chain.app.value.app s.ids s.jobs b.number b.txs 0 b.txs) (sym noted)) rows,
      omega (arith, fits, counted),
    )

pub returns-clause-step : goal.returns-clause-step
returns-clause-step g c =
    let s = c.self.inside in
    let none : s.work ≡ None = search rules in
    let shared : c.in_ok-shared.shared.value ≡ c.args.block.now.value = search rules in
    let noted : c.in_ok-noted.noted.value ≡ c.args.block.now.value = search rules in
    let next : c.args.block.now.value.number ≡ length s.chain.blocks + 1 = search rules in
    let more : c.push_reserved.new.self.items ≡ s.journal.items ++ record { actor = c.args.actor; event = Deliver c.in_ok-noted.noted } ∷ [] = search rules in
    subst (λ (b : Block). Delivers c.args.self.now c.args.actor b Taken (record { app = s.chain.app.value.app; journal = c.push_reserved.new.self.items })) noted
    (subst (λ (core : Core). Delivers core c.args.actor c.in_ok-noted.noted.value Taken (record { app = s.chain.app.value.app; journal = c.push_reserved.new.self.items })) c.self.view_is
    (deliver_steps _ c.self.invariant.0 c.args.actor none c.requires.processor c.in_ok-shared.shared c.in_ok-noted.noted (shared ∙ sym noted) (ap (λ (b : Block). b.number) noted ∙ next) c.push_reserved.new.self.items more))
