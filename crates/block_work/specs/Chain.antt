-- What a chain of decided blocks keeps: a store of the committed writes, and the results.
use Rattle.node_model.specs.Fold.{results_of}
use Rattle.node_model.specs.History.{SealedBlock, history_of}
use Rattle.node_model.specs.declared.result.BlockResult.{BlockResult}
use Rattle.node_model.specs.declared.result.Committed.{Committed}
use Rattle.proc_syntax.specs.Declaring.{tables_of}
use Rattle.proc_syntax.specs.declared.tree.App.{App}
use Rattle.rel_base.specs.Tables.{HistoryFits, Stamped}
use Rattle.rel_base.specs.declared.schema.TableDef.{TableDef}
use Rattle.row_sets.specs.Versions.{stamped_at}
use Rattle.std.specs.Prelude.{All, List, None, Option, Some, [], cond, length, pos, ◌+◌, ◌++◌, ◌<◌, ◌==◌, ◌≡◌, ◌≤◌, ◌∷◌, ◌⊎◌, ℕ, ℤ}

-- a store and some results are those of a chain of decided blocks
pub record HoldsChain (tables : List TableDef) (chain : List SealedBlock) (history : List Stamped) (blocks : List BlockResult) : Type 0 where
  pub writes : history ≡ history_of chain
  pub results : blocks ≡ results_of tables chain

-- results are numbered without a gap, where the first has a number
abbrev pub ResultsFrom : ℕ → List BlockResult → Type 0
ResultsFrom number [] = Unit {0}
ResultsFrom number (block ∷ rest) = (block.number ≡ number) × ResultsFrom (number + 1) rest

-- the time of the result of a number; 0 where there is none
abbrev pub time_of_result : ℕ → List BlockResult → ℤ
time_of_result number [] = pos 0
time_of_result number (block ∷ rest) = cond (block.number == number) block.time (time_of_result number rest)

-- the time of a result; 0 where there is none
abbrev pub time_or_none : Option BlockResult → ℤ
time_or_none None = pos 0
time_or_none (Some block) = block.time

-- a store is of the tables of an application, its writes fit them and are of the blocks so far, and these are numbered from 1
pub record StoreFits (app : App) (tables : List TableDef) (history : List Stamped) (results : List BlockResult) : Type 0 where
  pub declared : tables ≡ tables_of app
  pub fits : HistoryFits tables history
  pub below : All (λ stamped. stamped.0 ≤ length results) history
  pub numbered : ResultsFrom 1 results

-- the writes of committed transactions of the block of a number, each with its place
abbrev pub stamps : ℕ → List Committed → List Stamped
stamps number [] = []
stamps number (done ∷ rest) = stamped_at (record { block = number; pos = done.pos }) done.writes ++ stamps number rest

-- a write stands in a block below a number, or in that block and not above a position
abbrev pub IsUpTo : ℕ → ℕ → Stamped → Type 0
IsUpTo number last stamped = (stamped.0 < number) ⊎ ((stamped.0 ≡ number) × (stamped.1.pos ≤ last))
