-- The blocks to which a path leads, and what is left to do there.
use Rattle.std.specs.Prelude.{ℕ, List, [], ◌∷◌, drop, Option, Some, None, slice_get}
use Rattle.rel_base.specs.declared.value.Value.{Value}
use Rattle.proc_code.specs.declared.tree.Action.{Action, Action-F, out-Action}
use Rattle.proc_code.specs.declared.tree.Action.TheOpen as action
use Rattle.proc_code.specs.declared.tree.AppCode.{AppCode}
use Rattle.proc_code.specs.declared.tree.ProcCode.{ProcCode}
use Rattle.proc_run.specs.declared.path.Branch.{Branch}
use Rattle.proc_run.specs.declared.path.Branch.TheVariants.{Whole, First, Second}
use Rattle.proc_run.specs.declared.path.Spot.{Spot}
use Rattle.proc_run.specs.declared.path.Spot.TheVariants as spot

-- the statements of a procedure that may be there
abbrev pub body_of : Option ProcCode → List Action
body_of None = []
body_of (Some procedure) = procedure.body

abbrev pub body_at : AppCode → ℕ → List Action
body_at code number = body_of (slice_get code.procs number)

-- ---- the blocks of a statement

abbrev pub first_block : Action-F Action → List Action
first_block (action.Set slot value) = []
first_block (action.If test body other) = body
first_block (action.Get slot table key found absent) = found
first_block (action.For slot table column low high body) = body
first_block (action.Insert table values) = []
first_block (action.Update table key settings) = []
first_block (action.Delete table key) = []
first_block (action.Fail text) = []

abbrev pub second_block : Action-F Action → List Action
second_block (action.Set slot value) = []
second_block (action.If test body other) = other
second_block (action.Get slot table key found absent) = absent
second_block (action.For slot table column low high body) = []
second_block (action.Insert table values) = []
second_block (action.Update table key settings) = []
second_block (action.Delete table key) = []
second_block (action.Fail text) = []

abbrev pub block_in : (Action-F Action → List Action) → Option Action → List Action
block_in pick None = []
block_in pick (Some a) = pick (out-Action a)

-- a block of the statement of a number, or the block itself
abbrev pub part_of : List Action → ℕ → Branch → List Action
part_of block at Whole = block
part_of block at First = block_in first_block (slice_get block at)
part_of block at Second = block_in second_block (slice_get block at)

-- ---- paths

abbrev pub step_into : List Action → Spot → List Action
step_into block (spot.Block at branch next) = part_of block at branch
step_into block (spot.Done at branch) = part_of block at branch
step_into block (spot.Loop at slot table rows next) = block

-- the block to which a path leads
abbrev pub block_of : List Action → List Spot → List Action
block_of block [] = block
block_of block (s ∷ rest) = block_of (step_into block s) rest

-- what is left to do at a spot: statements, or rows that each go into a variable before a block
pub data Frame : Type 0 where
  Rest : List Action → Frame
  Rows : ℕ → ℕ → List (List Value) → List Action → Frame

abbrev pub frame_at : List Action → Spot → Frame
frame_at block (spot.Block at branch next) = Rest (drop next (part_of block at branch))
frame_at block (spot.Done at branch) = Rest []
frame_at block (spot.Loop at slot table rows next) = Rows slot table (drop next rows) (part_of block at First)

-- the last is the first to go on
abbrev pub frames_of : List Action → List Spot → List Frame
frames_of block [] = []
frames_of block (s ∷ rest) = frame_at block s ∷ frames_of (step_into block s) rest
