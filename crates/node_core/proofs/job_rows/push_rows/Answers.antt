use Rattle.std.proofs.Common.{arith}
use Rattle.std.proofs.lemmas.Grind.{common_steps}
use Rattle.std.proofs.Common.{List, subst}
use Rattle.node_core.proofs.Newest.{room_one}
use Rattle.node_core.specs.ById.{HasRoom, tx_ids}
use Rattle.node_model.specs.Steps.{Shared}
use Rattle.proc_syntax.specs.declared.call.Tx.{Tx}
use Rattle.node_core.proofs.job_rows.push_rows.Goals as goal

pub push_row-requires-clause-index_room : goal.push_row-requires-clause-index_room
push_row-requires-clause-index_room c =
    room_one c.loop-tx.index c.in-Some.tx.value.id (tx_ids c.next.new.self.rest.items)
    (subst (λ (txs : List (Shared Tx)). HasRoom c.loop-tx.index (tx_ids txs)) c.in-Some.ensures.steps.0 c.loop-tx.invariant.2)

pub loop-tx-preserved : goal.loop-tx-preserved
loop-tx-preserved c = grind (arith, common_steps)

pub returns-clause-rows : goal.returns-clause-rows
returns-clause-rows c = grind (arith, common_steps)
