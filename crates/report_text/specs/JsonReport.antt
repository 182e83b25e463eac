-- The JSON report: the value that it is, and its line.
use Rattle.std.specs.Prelude.{ℕ, ◌+◌, List, [], ◌∷◌, ◌++◌, Bool, true, cond, Option, Some, None, length, codes}
use Rattle.hex.specs.Hex.{encode_lower}
use Rattle.literals.specs.Bytes.{bytes_literal}
use Rattle.node_model.specs.declared.result.BlockResult.{BlockResult}
use Rattle.node_model.specs.declared.result.NodeResult.{NodeResult}
use Rattle.node_model.specs.declared.result.TableRows.{TableRows}
use Rattle.node_model.specs.declared.result.Told.{Told}
use Rattle.proc_syntax.specs.declared.chain_fault.ChainFault.{ChainFault}
use Rattle.rel_base.specs.declared.schema.TableDef.{TableDef}
use Rattle.rel_base.specs.declared.value.Value.{Value}
use Rattle.rel_base.specs.declared.value.Value.TheVariants as value
use Rattle.report_text.specs.Ending.{kind_text}
use Rattle.report_text.specs.Outcome.{outcome_text, table_name}
use Rattle.report_text.specs.declared.look.Look.{Look}
use Rattle.serde_json.specs.Data.{Data, boolean, number, string, array, object, unsigned, Items, no_items, item, Members, no_members, member}
use Rattle.serde_json.specs.Find.{of_integer}
use Rattle.serde_json.specs.Written.{compact_text}

-- a number from 0
abbrev pub count : ℕ → Data
count n = number (unsigned n)

-- the values of some things, one for each
abbrev pub items_by : {Thing : Type 0} → (Thing → Data) → List Thing → Items
items_by value [] = no_items
items_by value (thing ∷ things) = item (value thing) (items_by value things)

-- the same of things that are numbered one after another, the first by the number that is given
abbrev pub items_from : {Thing : Type 0} → (ℕ → Thing → Data) → ℕ → List Thing → Items
items_from value place [] = no_items
items_from value place (thing ∷ things) = item (value place thing) (items_from value (place + 1) things)

-- a member that is shown only where it is asked for, and those after it
abbrev pub member_if : Bool → List ℕ → Data → Members → Members
member_if asked key value others = cond asked (member key value others) others

-- an int is a number, a text a string, a bool a bool, and bytes are a string of their spelling
abbrev pub value_json : Value → Data
value_json (value.Int n) = number (of_integer n)
value_json (value.Text text) = string text
value_json (value.Bool answer) = boolean answer
value_json (value.Bytes bytes) = string (bytes_literal bytes)

-- a row: its values in the order of the columns
abbrev pub row_json : List Value → Data
row_json row = array (items_by value_json row)

-- a table: its name and its rows
abbrev pub table_json : List TableDef → TableRows → Data
table_json tables table = object
    (member (codes "name") (string (table_name tables table.table))
    (member (codes "rows") (array (items_by row_json table.rows)) no_members))

-- a transaction: its id, and its outcome as the lines of text have it
abbrev pub tx_json : List TableDef → Told → Data
tx_json tables told = object
    (member (codes "id") (string told.id)
    (member (codes "outcome") (string (outcome_text tables told.outcome)) no_members))

-- a block: its digest, its number, its serial order and its transactions; the digest and the order each if it is asked for
abbrev pub block_json : Look → List TableDef → BlockResult → Data
block_json look tables block = object
    (member_if look.digests (codes "digest") (string (encode_lower block.digest))
    (member (codes "number") (count block.number)
    (member_if look.orders (codes "order") (array (items_by count block.order))
    (member (codes "txs") (array (items_by (tx_json tables) block.outcomes)) no_members))))

-- a node: its blocks, its height, which is the number of its blocks, its own number, and its tables after the last block
abbrev pub node_json : Look → List TableDef → ℕ → NodeResult → Data
node_json look tables place node = object
    (member (codes "blocks") (array (items_by (block_json look tables) node.blocks))
    (member (codes "height") (count (length node.blocks))
    (member (codes "node") (count place)
    (member (codes "tables") (array (items_by (table_json tables) node.tables)) no_members))))

-- where the block file stopped, and why
abbrev pub fault_json : ChainFault → Data
fault_json fault = object
    (member (codes "kind") (string (kind_text fault.kind))
    (member (codes "line") (count fault.line) no_members))

-- `done` is true where the block file was read to its end; else `stopped` says where it stopped
abbrev pub with_end : Option ChainFault → Data → Members
with_end None nodes = member (codes "done") (boolean true) (member (codes "nodes") nodes no_members)
with_end (Some fault) nodes = member (codes "nodes") nodes (member (codes "stopped") (fault_json fault) no_members)

-- a report: the nodes numbered from 1, and how it ends
abbrev pub report_json : Look → List TableDef → List NodeResult → Option ChainFault → Data
report_json look tables nodes stop = object (with_end stop (array (items_from (node_json look tables) 1 nodes)))

-- its line: its compact text and a newline
abbrev pub json_line : Look → List TableDef → List NodeResult → Option ChainFault → List ℕ
json_line look tables nodes stop = compact_text (report_json look tables nodes stop) ++ codes "\n"
