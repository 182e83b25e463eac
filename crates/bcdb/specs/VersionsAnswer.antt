-- What a query of versions answers.
use Rattle.std.specs.Prelude.{Err, List, Ok, Option, Result, ◌++◌, ℕ}
use Rattle.bcdb.specs.ProgramAnswer.{ProgramAnswer, says, status_of}
use Rattle.bcdb.specs.Refusals.{query_refusal, refusal_line}
use Rattle.bcdb.specs.Selected.{selected}
use Rattle.bcdb.specs.declared.refusal.Refusal.{Refusal}
use Rattle.bcdb.specs.declared.status.Status.TheVariants.{AppRefused, QueryRefused}
use Rattle.chain_file.specs.Chain.{chain}
use Rattle.node_model.specs.declared.version.Version.{Version}
use Rattle.proc_syntax.specs.Declaring.{tables_of}
use Rattle.proc_syntax.specs.declared.call.Block.{Block}
use Rattle.proc_syntax.specs.declared.chain_fault.ChainFault.{ChainFault}
use Rattle.proc_syntax.specs.declared.tree.App.{App}
use Rattle.provenance.specs.Grammar.{query_of}
use Rattle.provenance.specs.declared.query.QueryFault.{QueryFault}
use Rattle.rel_base.specs.declared.schema.TableDef.{TableDef}
use Rattle.report_text.specs.Ending.{end_line}
use Rattle.report_text.specs.Versions.{versions_text}

-- the versions that a query selects, and how the block file ended; or why the query is refused, also where the block file has a fault
abbrev pub over_versions : List TableDef → Option ChainFault → Result (List Version) QueryFault → ProgramAnswer
over_versions tables stop (Ok versions) = says (status_of stop) (versions_text tables versions ++ end_line stop)
over_versions tables stop (Err fault) = says QueryRefused (query_refusal fault)

-- the blocks decide after the application: a query is answered over those before the first fault
abbrev pub over_blocks : (query : List ℕ) → App → List Block → Option ChainFault → ProgramAnswer
over_blocks query app blocks stop = over_versions (tables_of app) stop (selected app blocks (query_of query))

-- the application decides before the blocks
abbrev pub over_query : (query : List ℕ) → Result App Refusal → List ℕ → ProgramAnswer
over_query query (Err refusal) bytes = says AppRefused (refusal_line refusal)
over_query query (Ok app) bytes = over_blocks query app (chain bytes).0 (chain bytes).1
