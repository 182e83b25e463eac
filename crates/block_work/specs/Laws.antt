-- The laws, each the contract of a function of the module `laws`.
use Rattle.block_work.specs.Causes.{RunFits}
use Rattle.block_work.specs.Chain.{HoldsChain}
use Rattle.node_model.specs.Fold.{fold}
use Rattle.node_model.specs.declared.result.BlockResult.{BlockResult}
use Rattle.proc_syntax.specs.Declaring.{tables_of}
use Rattle.proc_syntax.specs.Run.{run}
use Rattle.proc_syntax.specs.declared.call.Block.{Block}
use Rattle.proc_syntax.specs.declared.call.Tx.{Tx}
use Rattle.proc_syntax.specs.declared.tree.App.{App}
use Rattle.rel_base.specs.Tables.{HistoryFits, Stamped, tables_at}
use Rattle.serial_laws.specs.Chained.{AreNumbered}
use Rattle.serial_laws.specs.InOrder.{EachInOrder}
use Rattle.std.specs.Prelude.{List, ℕ, ℤ}

-- a run on the tables of a height can be judged, where the writes of the store fit its tables
abbrev pub RunsFit : Type 0
RunsFit = (app : App) (tx : Tx) (time : ℤ) (height : ℕ) (history : List Stamped) → HistoryFits (tables_of app) history → RunFits (tables_of app) (run app tx time (tables_at height history))

-- where a chain is the fold of some blocks, its results tell for each an order in which its committed transactions run again one by one
abbrev pub ResultsRunAgain : Type 0
ResultsRunAgain = (app : App) (blocks : List Block) (history : List Stamped) (results : List BlockResult) → AreNumbered 1 blocks → HoldsChain (tables_of app) (fold app blocks) history results
    → EachInOrder app blocks results
