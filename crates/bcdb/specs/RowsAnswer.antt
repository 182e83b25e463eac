-- What a query of the tables at a height answers.
use Rattle.std.specs.Prelude.{Err, List, Ok, Option, Result, codes, length, ◌++◌, ℕ}
use Rattle.bcdb.specs.ProgramAnswer.{ProgramAnswer, says, status_of}
use Rattle.bcdb.specs.Refusals.{refusal_line}
use Rattle.bcdb.specs.declared.refusal.Refusal.{Refusal}
use Rattle.bcdb.specs.declared.status.Status.TheVariants.{AppRefused, QueryRefused}
use Rattle.chain_file.specs.Chain.{chain}
use Rattle.node_model.specs.Fold.{fold}
use Rattle.node_model.specs.History.{SealedBlock, history_of}
use Rattle.proc_syntax.specs.Declaring.{tables_of}
use Rattle.proc_syntax.specs.declared.call.Block.{Block}
use Rattle.proc_syntax.specs.declared.chain_fault.ChainFault.{ChainFault}
use Rattle.proc_syntax.specs.declared.tree.App.{App}
use Rattle.query_plan.specs.declared.fault.AskFault.{AskFault}
use Rattle.query_text.specs.Answered.{answered, fault_name}
use Rattle.rel_base.specs.declared.schema.TableDef.{TableDef}
use Rattle.rel_base.specs.declared.value.Value.{Value}
use Rattle.report_text.specs.Answers.{answers_text}
use Rattle.report_text.specs.Ending.{end_line}

-- the answer to a text over the results of blocks: of their tables as they were after the block of a height
abbrev pub asked_of : (height : ℕ) (text : List ℕ) → List TableDef → List SealedBlock → Result (List (List Value)) AskFault
asked_of height text tables sealed = answered tables text (history_of sealed) (length sealed) height

-- over the fold of blocks
abbrev pub rows_asked : (height : ℕ) (text : List ℕ) → App → List Block → Result (List (List Value)) AskFault
rows_asked height text app blocks = asked_of height text (tables_of app) (fold app blocks)

-- `refused query KIND`
abbrev pub ask_refusal : AskFault → List ℕ
ask_refusal fault = codes "refused query " ++ fault_name fault ++ codes "\n"

-- the rows of the answer, and how the block file ended; or why the query is refused, also where the block file has a fault
abbrev pub over_rows : Option ChainFault → Result (List (List Value)) AskFault → ProgramAnswer
over_rows stop (Ok rows) = says (status_of stop) (answers_text rows ++ end_line stop)
over_rows stop (Err fault) = says QueryRefused (ask_refusal fault)

-- a query is answered over the blocks before the first fault
abbrev pub over_asked : (height : ℕ) (text : List ℕ) → App → List Block → Option ChainFault → ProgramAnswer
over_asked height text app blocks stop = over_rows stop (rows_asked height text app blocks)

-- the application decides before the blocks
abbrev pub over_ask : (height : ℕ) (text : List ℕ) → Result App Refusal → List ℕ → ProgramAnswer
over_ask height text (Err refusal) bytes = says AppRefused (refusal_line refusal)
over_ask height text (Ok app) bytes = over_asked height text app (chain bytes).0 (chain bytes).1
