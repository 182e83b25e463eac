-- What makes results of blocks fit to be asked, and that those of a fold are so.
use Rattle.node_model.specs.Fold.{fold, results_of}
use Rattle.node_model.specs.History as node
use Rattle.node_model.specs.History.{SealedBlock}
use Rattle.node_model.specs.declared.result.BlockResult.{BlockResult}
use Rattle.proc_syntax.specs.Declaring.{tables_of}
use Rattle.proc_syntax.specs.declared.call.Block.{Block}
use Rattle.proc_syntax.specs.declared.tree.App.{App}
use Rattle.provenance.specs.Versions.{AreTold, history_of}
use Rattle.rel_base.specs.declared.schema.TableDef.{TableDef}
use Rattle.std.specs.List.{range_with_len}
use Rattle.std.specs.Prelude.{All, List, length, map, ◌≡◌, ◌≤◌, ℕ}

-- numbers run from 1
abbrev pub RunFromOne : List ℕ → Type 0
RunFromOne numbers = numbers ≡ range_with_len 1 (length numbers)

-- the position of each write of a block lies between 1 and the number of its transactions
abbrev pub HasPlaces : BlockResult → Type 0
HasPlaces block = All (λ placed. (1 ≤ placed.pos) × (placed.pos ≤ length block.outcomes)) block.writes

-- where the numbers of blocks run from 1 and positions are so, each write stands at the place of a transaction
abbrev pub PlacesAreTold : Type 0
PlacesAreTold = (blocks : List BlockResult) → RunFromOne (map (λ block. block.number) blocks) → All HasPlaces blocks → AreTold blocks

-- so it is in the results of the fold of blocks whose numbers run from 1
abbrev pub FoldsAreTold : Type 0
FoldsAreTold = (app : App) (blocks : List Block) → RunFromOne (map (λ block. block.number) blocks) → AreTold (results_of (tables_of app) (fold app blocks))

-- the results of a chain tell its history
abbrev pub HistoriesAreTold : Type 0
HistoriesAreTold = (tables : List TableDef) (chain : List SealedBlock) → history_of (results_of tables chain) ≡ node.history_of chain
