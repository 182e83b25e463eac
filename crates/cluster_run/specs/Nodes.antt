-- What a node tells of the blocks that it was given, whatever arrived there and whatever its executors did.
use Rattle.std.specs.Prelude.{List, [], ◌≡◌}
use Rattle.node_model.specs.Fold.{node_result, results_of}
use Rattle.node_model.specs.Journals.{IsLegal, delivered, world}
use Rattle.node_model.specs.declared.result.NodeResult.{NodeResult}
use Rattle.proc_syntax.specs.Declaring.{tables_of}
use Rattle.proc_syntax.specs.declared.call.Block.{Block}
use Rattle.proc_syntax.specs.declared.tree.App.{App}
use Rattle.serial_laws.specs.InOrder.{EachInOrder}

-- But for the journal it is the fold of the blocks. The journal is one that steps can make, its deliveries are these blocks in order, and it comes to the
-- results that are reported. Each block has an order in which its committed transactions run again one by one.
pub record IsNodeOf (app : App) (blocks : List Block) (node : NodeResult) : Type 0 where
  pub folds : record node { journal = [] } ≡ node_result app blocks
  pub legal : IsLegal app node.journal
  pub delivers : delivered node.journal ≡ blocks
  pub tells : results_of (tables_of app) (world app node.journal).sealed ≡ node.blocks
  pub replays : EachInOrder app blocks node.blocks
