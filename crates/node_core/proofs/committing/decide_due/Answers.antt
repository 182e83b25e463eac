use Rattle.std.proofs.Common.{refl}
use Rattle.block_work.specs.Causes.{outcome_of}
use Rattle.node_core.proofs.Readied.{can_add, decided_by, decided_from}
use Rattle.node_core.specs.declared.delivered_block.DeliveredBlock.{DeliveredBlock}
use Rattle.proc_syntax.specs.Declaring.{tables_of}
use Rattle.node_core.proofs.committing.decide_due.Goals as goal

pub add_decided-requires-clause-sound : goal.add_decided-requires-clause-sound
add_decided-requires-clause-sound g c =
    let exact = c.args.chain.now.app.value.app.exact in
    let tables = tables_of c.args.chain.now.app.value.app in
    let history = g.V.Versions.history c.args.chain.now.versions in (
      tables,
      can_add exact tables history c.args.jobs.now c.args.number c.args.working.now c.make_ready.new.working c.in_ok-verdict.verdict c.make_ready.ensures.same (c.make_ready.ensures.consistent tables c.requires.consistent)
          c.in_ok-verdict.ensures.outcome c.in_ok-verdict.ensures.sound c.take-recorded.result c.take-recorded.ensures.record c.requires.done,
    )

pub returns-clause-decided : goal.returns-clause-decided
returns-clause-decided g c = λ tx next done.
    let exact = c.args.chain.now.app.value.app.exact in
    let tables = tables_of c.args.chain.now.app.value.app in
    let history = g.V.Versions.history c.args.chain.now.versions in
    let old = c.args.working.now in
    let made = c.make_ready.new.working in
    let new : DeliveredBlock = record { block = made.block; done = c.add_decided.new.work } in
    let verdict = c.in_ok-verdict.verdict in
    decided_by exact tables history c.args.jobs.now c.args.number old made verdict c.make_ready.ensures.same (c.make_ready.ensures.consistent tables c.requires.consistent) c.in_ok-verdict.ensures.outcome
    c.in_ok-verdict.ensures.sound c.take-recorded.result c.take-recorded.ensures.record new c.args.ids.now c.make_ready.new.ids tx
    (decided_from old made c.args.ids.now c.make_ready.new.ids c.in_ok-id.id c.make_ready.ensures.same c.make_ready.ensures.block c.in_ok-id.ensures.id c.in_ok-id.ensures.added new c.take-recorded.result.ran
    (outcome_of verdict) refl c.add_decided.ensures.number c.add_decided.ensures.time c.add_decided.ensures.work tx next)
    done

pub returns-clause-consistent : goal.returns-clause-consistent
returns-clause-consistent g c =
    let exact = c.args.chain.now.app.value.app.exact in
    let tables = tables_of c.args.chain.now.app.value.app in
    let history = g.V.Versions.history c.args.chain.now.versions in
    c.add_decided.ensures.consistent tables
    (can_add exact tables history c.args.jobs.now c.args.number c.args.working.now c.make_ready.new.working c.in_ok-verdict.verdict c.make_ready.ensures.same (c.make_ready.ensures.consistent tables c.requires.consistent)
    c.in_ok-verdict.ensures.outcome c.in_ok-verdict.ensures.sound c.take-recorded.result c.take-recorded.ensures.record c.requires.done)
