-- The digests of a fold.
use Rattle.node_model.specs.Fold.{fold, results_of}
use Rattle.node_model.specs.declared.result.BlockResult.{BlockResult}
use Rattle.proc_syntax.specs.Declaring.{tables_of}
use Rattle.proc_syntax.specs.declared.call.Block.{Block}
use Rattle.proc_syntax.specs.declared.tree.App.{App}
use Rattle.std.specs.Prelude.{List, map, ℕ}

-- the digests of results, block by block
abbrev pub digests_of_results : List BlockResult → List (List ℕ)
digests_of_results results = map (λ block. block.digest) results

-- the digests of the fold of blocks
abbrev pub fold_digests : App → List Block → List (List ℕ)
fold_digests app blocks = digests_of_results (results_of (tables_of app) (fold app blocks))
