-- What a checkpoint, and the proof of a write, answer: a file that is drawn from the fold of the blocks.
use Rattle.std.specs.Prelude.{Bool, Err, List, None, Ok, Option, Result, Some, [], cond, ◌++◌, ℕ}
use Rattle.bcdb.specs.ProgramAnswer.{ProgramAnswer, says, status_of}
use Rattle.bcdb.specs.Refusals.{query_refusal, refusal_line}
use Rattle.bcdb.specs.declared.extract.Extract.TheVariants.{Hashes, Proof}
use Rattle.bcdb.specs.declared.extract.Extract.{Extract}
use Rattle.bcdb.specs.declared.refusal.Refusal.{Refusal}
use Rattle.bcdb.specs.declared.status.Status.TheVariants.{AppRefused, QueryRefused}
use Rattle.chain_file.specs.Chain.{chain}
use Rattle.checkpoint.specs.Files.{digest_file}
use Rattle.checkpoint.specs.Folded.{digests_of_results}
use Rattle.merkle_proof.specs.Blocks.{heads_of, proof_of_write}
use Rattle.node_model.specs.Fold.{fold, results_of}
use Rattle.node_model.specs.declared.result.BlockResult.{BlockResult}
use Rattle.proc_syntax.specs.Declaring.{tables_of}
use Rattle.proc_syntax.specs.declared.call.Block.{Block}
use Rattle.proc_syntax.specs.declared.chain_fault.ChainFault.{ChainFault}
use Rattle.proc_syntax.specs.declared.tree.App.{App}
use Rattle.provenance.specs.declared.query.QueryFault.TheVariants as fault
use Rattle.report_text.specs.Ending.{stopped_line}

-- the digest of each block, or the head of its writes
abbrev pub hashes_of : (heads : Bool) → List BlockResult → List (List ℕ)
hashes_of heads results = cond heads (heads_of results) (digests_of_results results)

-- the file of these, or that of the proof of a write, if there is one
abbrev pub extracted : Extract → List BlockResult → Option (List ℕ)
extracted (Hashes heads) results = Some (digest_file heads (hashes_of heads results))
extracted (Proof block write) results = proof_of_write results block write

-- where the block file stopped, if it has a fault
abbrev pub stop_text : Option ChainFault → List ℕ
stop_text None = []
stop_text (Some fault) = stopped_line fault

-- a file, and where the block file stopped; that there is no such write is refused also where the block file has a fault
abbrev pub over_file : Option ChainFault → Option (List ℕ) → ProgramAnswer
over_file stop None = says QueryRefused (query_refusal fault.BadRange)
over_file stop (Some file) = says (status_of stop) (file ++ stop_text stop)

-- the results of the fold of blocks
abbrev pub folded : App → List Block → List BlockResult
folded app blocks = results_of (tables_of app) (fold app blocks)

abbrev pub over_results : Extract → App → List Block → Option ChainFault → ProgramAnswer
over_results wanted app blocks stop = over_file stop (extracted wanted (folded app blocks))

-- the application decides before the blocks
abbrev pub over_extract : Extract → Result App Refusal → List ℕ → ProgramAnswer
over_extract wanted (Err refusal) bytes = says AppRefused (refusal_line refusal)
over_extract wanted (Ok app) bytes = over_results wanted app (chain bytes).0 (chain bytes).1
