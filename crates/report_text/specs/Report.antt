-- The lines of a report, and the report of nodes.
use Rattle.std.specs.Prelude.{ℕ, ◌+◌, List, [], ◌∷◌, ◌++◌, Bool, cond, Option, flat_map, length, codes, decimal}
use Rattle.hex.specs.Hex.{encode_lower}
use Rattle.node_model.specs.declared.journal.Entry.{Entry}
use Rattle.node_model.specs.declared.result.BlockResult.{BlockResult}
use Rattle.node_model.specs.declared.result.NodeResult.{NodeResult}
use Rattle.node_model.specs.declared.result.TableRows.{TableRows}
use Rattle.node_model.specs.declared.result.Told.{Told}
use Rattle.proc_syntax.specs.declared.chain_fault.ChainFault.{ChainFault}
use Rattle.rel_base.specs.declared.schema.TableDef.{TableDef}
use Rattle.rel_base.specs.declared.value.Value.{Value}
use Rattle.report_text.specs.Ending.{end_line}
use Rattle.report_text.specs.Journal.{event_text}
use Rattle.report_text.specs.JsonReport.{json_line}
use Rattle.report_text.specs.declared.look.Look.{Look}
use Rattle.report_text.specs.Outcome.{outcome_text, values_text, table_name}

-- a line: its text and a newline
abbrev pub line : List ℕ → List ℕ
line text = text ++ codes "\n"

-- the texts of items that are numbered one after another, the first by the number that is given
abbrev pub numbered : {Item : Type 0} → (ℕ → Item → List ℕ) → ℕ → List Item → List ℕ
numbered text number [] = []
numbered text number (item ∷ items) = text number item ++ numbered text (number + 1) items

-- a transaction: its position, its id and its outcome
abbrev pub tx_line : List TableDef → ℕ → Told → List ℕ
tx_line tables pos told =
    line (codes "tx " ++ decimal pos ++ codes " " ++ told.id ++ codes " " ++ outcome_text tables told.outcome)

-- the line that begins a block
abbrev pub block_line : BlockResult → List ℕ
block_line block = line (codes "block " ++ decimal block.number)

-- positions, each after a space
abbrev pub order_text : List ℕ → List ℕ
order_text positions = flat_map (λ position. codes " " ++ decimal position) positions

-- the positions of the committed transactions of a block in their serial order; `order` alone where there are none
abbrev pub order_line : BlockResult → List ℕ
order_line block = line (codes "order" ++ order_text block.order)

-- the digest of a block, in lower-case hexadecimal digits
abbrev pub digest_line : BlockResult → List ℕ
digest_line block = line (codes "digest " ++ encode_lower block.digest)

-- a line that is shown only where it is asked for
abbrev pub shown_if : Bool → List ℕ → List ℕ
shown_if asked text = cond asked text []

-- a block: its number, its transactions at the positions from 1, and then its order and its digest, each if it is asked for
abbrev pub block_lines : Look → List TableDef → BlockResult → List ℕ
block_lines look tables block =
    block_line block ++ numbered (tx_line tables) 1 block.outcomes ++ shown_if look.orders (order_line block) ++ shown_if look.digests (digest_line block)

-- a row: its values in the order of the columns
abbrev pub row_line : List Value → List ℕ
row_line row = line (codes "row" ++ values_text row)

-- the line that begins a table
abbrev pub table_line : List TableDef → ℕ → List ℕ
table_line tables table = line (codes "table " ++ table_name tables table)

-- a table: its name, and its rows
abbrev pub table_lines : List TableDef → TableRows → List ℕ
table_lines tables table = table_line tables table.table ++ flat_map row_line table.rows

-- the height of a node, which is the number of its blocks
abbrev pub height_line : List BlockResult → List ℕ
height_line blocks = line (codes "height " ++ decimal (length blocks))

-- the line that begins a node
abbrev pub node_line : ℕ → List ℕ
node_line number = line (codes "node " ++ decimal number)

-- a node: its blocks, then its tables after the last of them, then its height
abbrev pub node_lines : Look → List TableDef → ℕ → NodeResult → List ℕ
node_lines look tables number node =
    node_line number ++ flat_map (block_lines look tables) node.blocks ++ flat_map (table_lines tables) node.tables
    ++ height_line node.blocks

-- an entry of a journal: the actor, and what it did
abbrev pub entry_line : Entry → List ℕ
entry_line entry = line (decimal entry.actor ++ codes " " ++ event_text entry.event)

-- the line that begins the journal of a node
abbrev pub journal_line : ℕ → List ℕ
journal_line number = line (codes "journal " ++ decimal number)

-- the journal of a node: its entries in order
abbrev pub journal_lines : ℕ → NodeResult → List ℕ
journal_lines number node = journal_line number ++ flat_map entry_line node.journal

-- the lines of a report: the nodes numbered from 1, and the line that ends it, by where the block file stopped
abbrev pub text_lines : Look → List TableDef → List NodeResult → Option ChainFault → List ℕ
text_lines look tables nodes stop = numbered (node_lines look tables) 1 nodes ++ end_line stop

-- these, or the line of JSON if it is asked for
abbrev pub report_lines : Look → List TableDef → List NodeResult → Option ChainFault → List ℕ
report_lines look tables nodes stop = cond look.json (json_line look tables nodes stop) (text_lines look tables nodes stop)

-- the journals of nodes that are numbered from 1
abbrev pub journals_text : List NodeResult → List ℕ
journals_text nodes = numbered journal_lines 1 nodes

-- a report, and then the journal of each node, if it is asked for
abbrev pub report_text : Look → List TableDef → List NodeResult → Option ChainFault → List ℕ
report_text look tables nodes stop = report_lines look tables nodes stop ++ shown_if look.trace (journals_text nodes)
