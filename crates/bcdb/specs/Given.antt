-- What was read of the files of a command, against what they are.
use Rattle.std.specs.Prelude.{Err, List, Ok, Result, ◌≡◌, ℕ}
use Rattle.std.specs.Result.{IsOk}
use Rattle.bcdb.specs.Accepted.{accepted}
use Rattle.bcdb.specs.ArrivalFiles.{all_arrived}
use Rattle.bcdb.specs.Folds.{Folds, app_of}
use Rattle.bcdb.specs.Sources.{steps_in}
use Rattle.bcdb.specs.declared.folding.Folded.{Folded}
use Rattle.bcdb.specs.declared.given.BadSource.TheVariants as bad
use Rattle.bcdb.specs.declared.given.BadSource.{BadSource}
use Rattle.bcdb.specs.declared.given.Given.{Given}
use Rattle.bcdb.specs.declared.given.Inputs.{Inputs}
use Rattle.bcdb.specs.declared.sources.Sources.{Sources}
use Rattle.chain_file.specs.Chain.{chain}
use Rattle.edge_traits.specs.Shelf.{Files}
use Rattle.proc_syntax.specs.declared.call.Block.{Block}

-- the first file that is refused is refused for the reason that is reported
abbrev pub IsBad : BadSource → Sources → Files → Type 0
IsBad (bad.App refusal) asked files = accepted (files asked.app) ≡ Err refusal
IsBad (bad.Arrivals fault) asked files = IsOk (accepted (files asked.app)) × (all_arrived asked.arrivals 1 asked.nodes files ≡ Err fault)
IsBad (bad.Schedule line) asked files =
    IsOk (accepted (files asked.app)) × IsOk (all_arrived asked.arrivals 1 asked.nodes files) × (steps_in asked.schedule files ≡ Err line)

-- or each file is what was read of it: of those before the blocks,
abbrev pub AreInputs : Result Inputs BadSource → Sources → Files → Type 0
AreInputs (Ok inputs) asked files = (accepted (files asked.app) ≡ Ok inputs.app.app)
    × (all_arrived asked.arrivals 1 asked.nodes files ≡ Ok inputs.arrivals)
    × (steps_in asked.schedule files ≡ Ok inputs.schedule.steps)
AreInputs (Err why) asked files = IsBad why asked files

-- of all,
abbrev pub AreGiven : Result Given BadSource → Sources → Files → Type 0
AreGiven (Ok given) asked files = (accepted (files asked.app) ≡ Ok given.app.app)
    × (all_arrived asked.arrivals 1 asked.nodes files ≡ Ok given.arrivals)
    × (steps_in asked.schedule files ≡ Ok given.schedule.steps)
    × (chain (files asked.blocks) ≡ (given.read.blocks, given.read.fault))
AreGiven (Err why) asked files = IsBad why asked files

-- and where the blocks are not kept, a node was given those of the file on its application
abbrev pub AreFolded : (height : ℕ) → Result Folded BadSource → Sources → Files → Type 0
AreFolded height (Ok folded) asked files = (accepted (files asked.app) ≡ Ok (app_of folded))
    × IsOk (all_arrived asked.arrivals 1 asked.nodes files)
    × ((blocks : List Block) × (Folds height blocks folded × (chain (files asked.blocks) ≡ (blocks, folded.fault))))
AreFolded height (Err why) asked files = IsBad why asked files
