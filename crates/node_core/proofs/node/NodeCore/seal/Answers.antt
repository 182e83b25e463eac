use Rattle.std.proofs.Common.{None, Some, [], ap, arith, length, map, rules, subst, ◌+◌, ◌++◌, ◌∙◌, ◌≡◌, ◌≤◌, ◌∷◌}
use Rattle.std.specs.Prelude.{vec_capacity, vec_len}
use Rattle.node_core.proofs.Dropped_rows.{count_dropped}
use Rattle.node_core.proofs.Seals.{block_dropped, block_number, can_join, seal_stays, sealed_kept}
use Rattle.node_core.proofs.Telling.{replays}
use Rattle.node_core.specs.Answers.{sealed_as}
use Rattle.node_core.specs.Core.{Core, Steps, results_in}
use Rattle.node_core.specs.Looking.{sealed_blocks}
use Rattle.node_core.specs.Over.{drop_among, drop_settled, not_sealed}
use Rattle.node_core.specs.Rows.{count_held}
use Rattle.node_model.specs.Steps.{ToSeal}
use Rattle.node_model.specs.declared.journal.Event.TheVariants.{Seal}
use Rattle.proc_check.specs.declared.checked.Checked.{Checked}
use Rattle.proc_syntax.specs.declared.call.Tx.{Tx}
use Rattle.serial_laws.specs.InOrder.{EachInOrder}
use Rattle.node_core.proofs.node.NodeCore.seal.Goals as goal

-- ---- no block is sealed

pub returns-in-Some-clause-step : goal.returns-in-Some-clause-step
returns-in-Some-clause-step g c =
    let s = c.self.inside in
    let at : c.height.result ≡ length s.chain.blocks = search rules in
    let is : not_sealed c.height.result s.work ≡ Some c.in-Some.answer = search rules in
    subst (λ (core : Core). Steps core c.args.actor ToSeal (sealed_as c.in-Some.answer) core) c.self.view_is
    (seal_stays _ c.self.invariant.0 c.height.result at c.args.actor c.in-Some.answer is)

pub returns-in-Some-clause-replays : goal.returns-in-Some-clause-replays
returns-in-Some-clause-replays g c = subst (λ (core : Core). EachInOrder core.app (sealed_blocks core) (results_in core)) c.self.view_is (replays _ c.self.invariant.0)

-- ---- one is

pub seal_work-requires-clause-can : goal.seal_work-requires-clause-can
seal_work-requires-clause-can g c =
    let none : not_sealed c.height.result c.self.inside.work ≡ None = search rules in
    can_join _ c.self.invariant.0 c.height.result none

pub invariant_of-self-2 : goal.invariant_of-self-2
invariant_of-self-2 g c =
    let s = c.self.inside in
    let new = c.seal_work.new.chain in
    let none : not_sealed c.height.result s.work ≡ None = search rules in
    let noted : c.push_reserved.new.self.items ≡ s.journal.items ++ record { actor = c.args.actor; event = Seal c.in_ok-block.block.value.number } ∷ [] = search rules in
    let same : new.app.value ≡ s.chain.app.value = search rules in
    let empty : c.seal_work.new.work ≡ None = search rules in
    let ids = map (λ (tx : Tx). tx.id) c.in_ok-block.block.value.txs in
    let among : c.drop_ids.new.self ≡ map (drop_among ids) s.jobs = search rules in
    let rows : c.drop_ids.new.self ≡ map (drop_settled s.ids) s.jobs = among ∙ block_dropped _ c.self.invariant.0 c.height.result none c.in_ok-block.block c.in_ok-block.ensures.block in
    let fits : vec_len c.push_reserved.new.self + count_held s.jobs ≤ vec_capacity c.push_reserved.new.self = search rules in
    let counted : count_held c.drop_ids.new.self ≡ count_held s.jobs = ap count_held among ∙ count_dropped ids s.jobs in (
      sealed_kept _ c.self.invariant.0 c.height.result none c.args.actor c.in_ok-block.block.value.number c.requires.processor
          (block_number _ c.self.invariant.0 c.height.result none c.in_ok-block.block c.in_ok-block.ensures.block) c.push_reserved.new.self.items noted
          new.app.value.app (g.V.Versions.tables new.versions) (g.V.Versions.history new.versions) new.blocks (ap (λ (checked : Checked). checked.app) same) c.seal_work.ensures.store
          c.in_ok-block.ensures.holds c.seal_work.new.work c.drop_ids.new.self empty rows,
      omega (arith, fits, counted),
    )

pub returns-clause-replays : goal.returns-clause-replays
returns-clause-replays g c = replays _ (invariant_of-self-2 g c).0
