use Rattle.std.proofs.Common.{None, OnOk, ap, subst, ◌+◌, ◌++◌, ◌∙◌, ◌≡◌, ◌∷◌, []}
use Rattle.cluster_run.proofs.Blocks.{deliver_leaves, deliver_takes}
use Rattle.cluster_run.proofs.Following.{comes_self}
use Rattle.cluster_run.proofs.Made.{delivery_keeps}
use Rattle.cluster_run.specs.Standing.{delivered_by}
use Rattle.node_core.specs.Answers.{delivered_as}
use Rattle.proc_syntax.specs.declared.call.Block.{Block}
use Rattle.cluster_run.proofs.processing.deliver_block.Goals as goal

pub returns-in_err-txs-clause-comes : goal.returns-in_err-txs-clause-comes
returns-in_err-txs-clause-comes g c = comes_self c.args.pass.now None c.requires.stands.no_turn c.requires.stands.hand

pub returns-clause-comes : goal.returns-clause-comes
returns-clause-comes g c = record {
  same = c.deliver_shared-delivered.ensures.same;
  no_turn = c.deliver_shared-delivered.ensures.no_turn;
  hand = deliver_leaves c.args.pass.now c.deliver_shared-delivered.new.pass c.deliver_shared-delivered.ensures.same c.requires.processor c.requires.stands.hand c.whole-shared.result.now.value
      c.deliver_shared-delivered.result c.deliver_shared-delivered.ensures.turn c.deliver_shared-delivered.ensures.err;
  entries = delivery_keeps c.args.pass.now c.deliver_shared-delivered.new.pass c.deliver_shared-delivered.result c.whole-shared.result.now.value delivered_as c.deliver_shared-delivered.ensures.turn c.deliver_shared-delivered.ensures.err;
}

pub returns-clause-delivers : goal.returns-clause-delivers
returns-clause-delivers g c =
    let pass = c.deliver_shared-delivered.new.pass in
    subst (λ (block : Block). OnOk c.deliver_shared-delivered.result (delivered_by pass ≡ delivered_by c.args.pass.now ++ block ∷ [])) c.whole-shared.ensures
    (deliver_takes c.args.pass.now pass c.deliver_shared-delivered.ensures.same c.requires.processor c.requires.stands.hand c.whole-shared.result.now.value c.deliver_shared-delivered.result c.deliver_shared-delivered.ensures.turn
    c.requires.rests (ap (λ (block : Block). block.number) c.whole-shared.ensures ∙ c.requires.next))
