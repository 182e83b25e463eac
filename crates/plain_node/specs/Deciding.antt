-- What is decided of a transaction.
use Rattle.block_work.specs.Block.{CanCommitWith, work_with}
use Rattle.block_work.specs.Causes.{IsCause}
use Rattle.block_work.specs.declared.block.BlockInWork.{BlockInWork}
use Rattle.node_model.specs.Fold.{Work}
use Rattle.node_model.specs.declared.outcome.Outcome.TheVariants as outcome
use Rattle.plain_node.specs.declared.decide.TxDecision.TheVariants.{Aborts, Commits}
use Rattle.plain_node.specs.declared.decide.TxDecision.{TxDecision}
use Rattle.proc_syntax.specs.Run.{no_run}
use Rattle.rel_base.specs.declared.schema.TableDef.{TableDef}
use Rattle.std.specs.Prelude.{List, ℕ}

-- a block in work with what is decided of its next transaction; one that is aborted leaves nothing but its outcome
abbrev pub with_decided : Work → List ℕ → TxDecision → Work
with_decided work id (Commits ran edges) = work_with work id ran outcome.Committed
with_decided work id (Aborts cause) = work_with work id no_run cause

-- the transaction can commit with its run and its edges, or there is a cause for which it is aborted
abbrev pub IsDecision : List TableDef → BlockInWork → TxDecision → Type 0
IsDecision tables work (Commits ran edges) = CanCommitWith tables work ran edges
IsDecision tables work (Aborts cause) = IsCause cause
