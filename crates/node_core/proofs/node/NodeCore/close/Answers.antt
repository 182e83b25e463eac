use Rattle.std.proofs.Common.{subst}
use Rattle.node_core.proofs.Telling.{folds, replays}
use Rattle.node_core.specs.Core.{Core, results_in, world_of}
use Rattle.node_core.specs.Looking.{sealed_blocks}
use Rattle.schedule_laws.specs.Scheduled.{IsOfFold}
use Rattle.serial_laws.specs.InOrder.{EachInOrder}
use Rattle.node_core.proofs.node.NodeCore.close.Goals as goal

pub returns-clause-fold : goal.returns-clause-fold
returns-clause-fold g c = subst (λ (core : Core). IsOfFold core.app core.journal (world_of core)) c.self.view_is (folds _ c.self.invariant.0)

pub returns-clause-replays : goal.returns-clause-replays
returns-clause-replays g c = subst (λ (core : Core). EachInOrder core.app (sealed_blocks core) (results_in core)) c.self.view_is (replays _ c.self.invariant.0)

pub returns-in_err-result-clause-fold : goal.returns-in_err-result-clause-fold
returns-in_err-result-clause-fold g c = subst (λ (core : Core). IsOfFold core.app core.journal (world_of core)) c.self.view_is (folds _ c.self.invariant.0)

pub returns-in_err-result-clause-replays : goal.returns-in_err-result-clause-replays
returns-in_err-result-clause-replays g c = subst (λ (core : Core). EachInOrder core.app (sealed_blocks core) (results_in core)) c.self.view_is (replays _ c.self.invariant.0)
