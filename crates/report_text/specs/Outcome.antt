-- The text of an outcome: `committed`, or `aborted` and the cause.
use Rattle.std.specs.Prelude.{ℕ, List, [], ◌++◌, Some, None, Option, cond, flat_map, slice_get, codes, decimal}
use Rattle.literals.specs.Text.{text_literal}
use Rattle.node_model.specs.Kinds.{danger_mark, fault_mark, is_same, kind_of, kind_word}
use Rattle.node_model.specs.declared.danger.Danger.{Danger}
use Rattle.node_model.specs.declared.danger.Danger.TheVariants as danger
use Rattle.node_model.specs.declared.kind.OutcomeKind.TheVariants.{Committed}
use Rattle.node_model.specs.declared.kind.OutcomeKind.{OutcomeKind}
use Rattle.node_model.specs.declared.outcome.Clash.{Clash}
use Rattle.node_model.specs.declared.outcome.Late.{Late}
use Rattle.node_model.specs.declared.outcome.Outcome.{Outcome}
use Rattle.node_model.specs.declared.outcome.Outcome.TheVariants as outcome
use Rattle.proc_syntax.specs.declared.fault.Fault.{Fault}
use Rattle.proc_syntax.specs.declared.fault.Fault.TheVariants as fault
use Rattle.rel_base.specs.declared.schema.TableDef.{TableDef}
use Rattle.rel_base.specs.declared.value.Value.{Value}
use Rattle.tx_text.specs.Values.{value_text}

-- values, each after a space
abbrev pub values_text : List Value → List ℕ
values_text values = flat_map (λ value. codes " " ++ value_text value) values

-- the name of a table, if it is declared
abbrev pub name_of : Option TableDef → List ℕ
name_of (Some def) = def.name
name_of None = []

-- the name of the table of a number, its place among the declarations; empty where there is none
abbrev pub table_name : List TableDef → ℕ → List ℕ
table_name tables table = name_of (slice_get tables table)

-- a key of a table: the table's name and the key's values
abbrev pub key_text : List TableDef → ℕ → List Value → List ℕ
key_text tables table key = table_name tables table ++ values_text key

-- a write in a block: the position of its transaction, its table and its key
abbrev pub write_text : List TableDef → ℕ → ℕ → List Value → List ℕ
write_text tables pos table key = decimal pos ++ codes " " ++ key_text tables table key

-- a late read: its number in the run, and the block of the write that hit it and that write
abbrev pub late_text : List TableDef → Late → List ℕ
late_text tables late =
    codes " " ++ decimal late.read ++ codes " by " ++ decimal late.place.block ++ codes " " ++ write_text tables late.place.pos late.table late.key

-- a key that was written before in the block, and the position that wrote it
abbrev pub clash_text : List TableDef → Clash → List ℕ
clash_text tables clash = codes " with " ++ write_text tables clash.with clash.table clash.key

-- two positions, each after a space
abbrev pub positions_text : ℕ → ℕ → List ℕ
positions_text first second = codes " " ++ decimal first ++ codes " " ++ decimal second

-- the positions on a path, each after a space
abbrev pub path_text : List ℕ → List ℕ
path_text path = flat_map (λ pos. codes " " ++ decimal pos) path

-- the positions of a danger in the order in which they are found, of a cycle those on its path
abbrev pub danger_positions : Danger → List ℕ
danger_positions (danger.One z x) = positions_text z x
danger_positions (danger.Two y z) = positions_text y z
danger_positions (danger.Cycle path) = path_text path

-- a danger after a space: the word of its form, and its positions
abbrev pub danger_text : Danger → List ℕ
danger_text found = codes " " ++ (danger_mark found).0 ++ danger_positions found

-- the text of a statement `fail`, which no other fault has, after a space
abbrev pub fault_reason : Fault → List ℕ
fault_reason fault.Overflow = []
fault_reason fault.ZeroDivide = []
fault_reason fault.DuplicateKey = []
fault_reason fault.NoRow = []
fault_reason fault.TextTooLong = []
fault_reason fault.Steps = []
fault_reason (fault.Failed text) = codes " " ++ text_literal text

-- why a run ended without its writes, after a space: its word, and its text
abbrev pub fault_text : Fault → List ℕ
fault_text why = codes " " ++ (fault_mark why).0 ++ fault_reason why

-- what an outcome names
abbrev pub details_text : List TableDef → Outcome → List ℕ
details_text tables outcome.Committed = []
details_text tables outcome.DuplicateId = []
details_text tables outcome.FutureHeight = []
details_text tables outcome.UnknownProcedure = []
details_text tables outcome.BadArguments = []
details_text tables (outcome.Late late) = late_text tables late
details_text tables (outcome.Fault why) = fault_text why
details_text tables (outcome.WriteConflict clash) = clash_text tables clash
details_text tables (outcome.Danger found) = danger_text found

-- the word of a kind, after `aborted` unless it is `committed`
abbrev pub verdict_text : OutcomeKind → List ℕ
verdict_text kind = cond (is_same kind Committed) [] (codes "aborted ") ++ kind_word kind

-- an outcome: its verdict, and what it names
abbrev pub outcome_text : List TableDef → Outcome → List ℕ
outcome_text tables outcome = verdict_text (kind_of outcome) ++ details_text tables outcome
