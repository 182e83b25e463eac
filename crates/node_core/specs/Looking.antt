-- What a node tells of its state.
use Rattle.node_core.specs.Core.{Core, results_in, world_of}
use Rattle.node_core.specs.declared.answers.Looked.TheVariants as looked
use Rattle.node_core.specs.declared.answers.Looked.{Looked}
use Rattle.node_model.specs.Fold.{all_rows}
use Rattle.node_model.specs.History.{SealedBlock, snapshot}
use Rattle.node_model.specs.Journals.{delivered}
use Rattle.node_model.specs.World.{BlockInWork, World}
use Rattle.node_model.specs.declared.outcome.Outcome.{Outcome}
use Rattle.node_model.specs.declared.result.NodeResult.{NodeResult}
use Rattle.node_model.specs.declared.result.Told.{Told}
use Rattle.proc_syntax.specs.Declaring.{tables_of}
use Rattle.proc_syntax.specs.declared.call.Block.{Block}
use Rattle.rel_base.specs.Among.{rows_in}
use Rattle.rel_base.specs.declared.access.Read.{Read}
use Rattle.std.specs.List.{find, flat_map}
use Rattle.std.specs.Option.{option_map}
use Rattle.std.specs.Prelude.{List, None, Option, Some, [], cond, length, nat_le, take, ◌++◌, ℕ}
use Rattle.std.specs.Str.{bytes_eq}

-- the rows of a read after the block of a height, where that is sealed
abbrev pub looks : Core → ℕ → Read → Looked
looks core height read =
    cond (nat_le height (length (world_of core).sealed)) (looked.Rows (rows_in (tables_of core.app) read (snapshot height (world_of core).sealed)))
    (looked.TooHigh (length (world_of core).sealed))

-- the outcomes of the block in work
abbrev pub told_in_work : Option BlockInWork → List Told
told_in_work None = []
told_in_work (Some work) = work.done.outcomes

-- all that was decided, in order
abbrev pub told_of : World → List Told
told_of w = flat_map (λ (block : SealedBlock). block.outcomes) w.sealed ++ told_in_work w.work

-- the outcome of the first decided transaction with an id
abbrev pub first_outcome : List ℕ → List Told → Option Outcome
first_outcome id told = option_map (λ (one : Told). one.outcome) (find (λ (one : Told). bytes_eq id one.id) told)

-- the delivered blocks that are sealed
abbrev pub sealed_blocks : Core → List Block
sealed_blocks core = take (length (world_of core).sealed) (delivered core.journal)

-- what a node comes to: the results of its sealed blocks, the tables after the last of them, and its journal
abbrev pub closed : Core → NodeResult
closed core = record {
  blocks = results_in core;
  tables = all_rows (snapshot (length (world_of core).sealed) (world_of core).sealed) 0 (tables_of core.app);
  journal = core.journal;
}
