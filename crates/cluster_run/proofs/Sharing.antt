-- What of a node may cross threads, where its store of versions may.
use denote.Param.Send.{IsSend, IsSync, sendable}
use denote.RattleType.{RattleType}
use Rattle.std.proofs.Crossing.{crosses}
use Rattle.std.proofs.MapsCrossing as maps
use Rattle.std.proofs.option.Option.TheSendSync as option
use Rattle.block_work.specs.contracts.block.BlockInWork as BlockInWork
use Rattle.block_work.specs.contracts.chain.Chain as Chain
use Rattle.block_work.specs.contracts.ids.IdIndex as IdIndex
use Rattle.cluster_run.proofs.Crossing.{checked_send, checked_sync, sends}
use Rattle.node_core.specs.contracts.index.JobIndex as JobIndex
use Rattle.node_core.specs.contracts.jobs.Jobs as Jobs
use Rattle.node_core.specs.contracts.jobs.JobRow as JobRow
use Rattle.node_core.specs.contracts.node.NodeCore as NodeCore
use Rattle.node_core.proofs.delivered_block.IndexedBlock.TheSendSync as indexed
use Rattle.node_core.specs.contracts.delivered_block.DeliveredBlock as DeliveredBlock
use Rattle.node_model.proofs.journal.Entry.TheSendSync as entry
use Rattle.node_model.proofs.result.Told.TheSendSync as told
use Rattle.node_model.specs.contracts.journal.Entry as Entry
use Rattle.node_model.specs.contracts.result.KeptResult as KeptResult
use Rattle.node_shared.specs.contracts.held_node.HeldNode as HeldNode
use Rattle.node_shared.specs.contracts.held_node.HeldNodeStoried.TheImpl as storied
use Rattle.node_shared.specs.contracts.shared.SharedNode as SharedNode
use Rattle.proc_syntax.proofs.call.Block.TheSendSync as block
use Rattle.proc_syntax.proofs.call.Tx.TheSendSync as tx
use Rattle.proc_syntax.specs.contracts.tree.App as App
use Rattle.rel_base.proofs.key.Key.TheSendSync as table_key
use Rattle.rel_base.proofs.list.List.TheSendSync as list
use Rattle.rel_base.proofs.row.Row.TheSendSync as table_row
use Rattle.rel_base.specs.contracts.told.ToldRows as ToldRows
use Rattle.row_sets.specs.declared.versions.Versions.{Ghosts}
use Rattle.turn_lock.proofs.lock.TurnLock.TheSendSync as lock
use Rattle.turn_lock.proofs.pass.Pass.TheSendSync as pass
use Rattle.turn_lock.specs.contracts.pass.Pass as Pass

ids_send : IsSend IdIndex.the_field.row
ids_send = search (sends, maps.crosses, crosses, sendable) depth 60 fits 20000

index_send : IsSend JobIndex.the_field.row
index_send = search (sends, maps.crosses, crosses, sendable) depth 60 fits 20000

-- rows that contracts alone see have no bytes, and own nothing
told_rows_send : IsSend ToldRows.the_row
told_rows_send = record { owned = λ d vs. ((λ vss. (tt, tt)), tt); leaving = λ k f vs. tt }

row_field_send : IsSend JobRow.the_field.row
row_field_send = search (sends, table_row.the_send, table_key.the_send, told_rows_send, tx.the_send, tx.the_sync, crosses, sendable) depth 60 fits 20000

row_send : IsSend JobRow.the_row
row_send = search (row_field_send, sendable) depth 60 fits 20000

jobs_send : IsSend Jobs.the_field.row
jobs_send = search (row_send, index_send, crosses, sendable) depth 60 fits 20000

done_send : IsSend BlockInWork.the_field.row
done_send = search (sends, table_row.the_send, table_key.the_send, told_rows_send, crosses, sendable) depth 60 fits 20000

delivered_field_send : IsSend DeliveredBlock.the_field.row
delivered_field_send = search (done_send, indexed.the_send, crosses, sendable) depth 60 fits 20000

delivered_send : IsSend DeliveredBlock.the_row
delivered_send = search (delivered_field_send, sendable) depth 60 fits 20000

-- the committed transactions of a result are seen by proofs alone
kept_field_send : IsSend KeptResult.the_field.row
kept_field_send = search (told.the_send, list.the_send, crosses, sendable) depth 60 fits 20000

kept_send : IsSend KeptResult.the_row
kept_send = search (kept_field_send, sendable) depth 60 fits 20000

module _ (V : RattleType) where
  chain_send : IsSend V → IsSend (Chain.the_field V).row
  chain_send v = search (list.the_send, checked_send, checked_sync, kept_send, crosses, sendable) depth 60 fits 20000

module _ (V : RattleType) (g : Ghosts V.Denot) where
  core_field_send : IsSend V → IsSend (NodeCore.the_field V g).row
  core_field_send v = let chain = chain_send V v in search (option.the_field_send, ids_send, jobs_send, delivered_send, entry.the_send, crosses, sendable) depth 60 fits 20000

  core_send : IsSend V → IsSend (NodeCore.the_row V g)
  core_send v = let core = core_field_send v in search sendable depth 60 fits 20000

  held_field_send : IsSend V → IsSend (HeldNode.the_field V g).row
  held_field_send v = let core = core_send v in search (crosses, sendable) depth 60 fits 20000

  held_send : IsSend V → IsSend (HeldNode.the_row V g)
  held_send v = let held = held_field_send v in search sendable depth 60 fits 20000

  node_field_sync : IsSend V → IsSync (SharedNode.the_field V g).row
  node_field_sync v = let held = held_send v in search (lock.the_field_sync, crosses, sendable) depth 60 fits 20000

  -- a node that threads share
  pub node_sync : IsSend V → IsSync (SharedNode.the_row V g)
  node_sync v = let node = node_field_sync v in search sendable depth 60 fits 20000

  -- a pass to it
  pub pass_send : IsSend V → IsSend (Pass.the_row (HeldNode.the_row V g) App.the_row Entry.the_row (storied.ghosts V g storied.no_dict storied.no_dict))
  pass_send v = pass.the_send (HeldNode.the_row V g) App.the_row Entry.the_row (storied.ghosts V g storied.no_dict storied.no_dict) (held_send v)
