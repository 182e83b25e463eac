-- What the text of a query is answered over a history of committed writes, and the names of faults.
use Rattle.std.specs.Prelude.{ℕ, List, codes}
use Rattle.rel_base.specs.Tables.{Stamped, tables_at}
use Rattle.rel_base.specs.declared.schema.TableDef.{TableDef}
use Rattle.rel_base.specs.declared.value.Value.{Value}
use Rattle.query_plan.specs.Answer.{answer_of}
use Rattle.query_plan.specs.declared.fault.AskFault.{AskFault}
use Rattle.query_plan.specs.declared.fault.AskFault.TheVariants as fault
use Rattle.query_text.specs.Walk.{Met, ◌>>=◌, select_of}

-- the answer to the query that a text is, over the tables as they were after the block of a height, where blocks are sealed up to another;
-- or the first fault, of the text or else of the answer
abbrev pub answered : List TableDef → (text : List ℕ) → (history : List Stamped) → (sealed height : ℕ) → Met (List (List Value))
answered tables text history sealed height = select_of tables text >>= λ select. answer_of (tables_at height history) select sealed height

-- the name of a fault; that memory ran out has a name too, and refuses none
abbrev pub fault_name : AskFault → List ℕ
fault_name fault.NoMemory = codes "NoMemory"
fault_name (fault.Syntax line col) = codes "Syntax"
fault_name (fault.UnknownName line col) = codes "UnknownName"
fault_name (fault.NameTwice line col) = codes "NameTwice"
fault_name (fault.WrongKind line col) = codes "WrongKind"
fault_name (fault.TooHigh sealed) = codes "TooHigh"
fault_name fault.TooMany = codes "TooMany"
fault_name fault.Overflow = codes "Overflow"
