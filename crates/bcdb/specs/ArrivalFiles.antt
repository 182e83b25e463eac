-- What arrives at the nodes, or what the clients submit: a file for each, by its number.
use Rattle.std.specs.Prelude.{Err, List, None, Ok, Option, Result, Some, [], decimal, suc, zero, ◌+◌, ◌++◌, ◌∷◌, ℕ}
use Rattle.bcdb.specs.declared.refusal.BadArrivals.{BadArrivals}
use Rattle.edge_traits.specs.Shelf.{Files}
use Rattle.proc_syntax.specs.declared.call.Tx.{Tx}
use Rattle.std.specs.Option.{option_map}
use Rattle.tx_text.specs.Arrivals.{arrivals}

-- the file of a node or a client is named by the words, and after these its number
abbrev pub node_file : List ℕ → ℕ → List ℕ
node_file prefix node = prefix ++ decimal node

abbrev pub file_at : Option (List ℕ) → ℕ → Option (List ℕ)
file_at prefix node = option_map (λ name. node_file name node) prefix

-- what arrives by a file, if one is named; or the first line with a fault
abbrev pub arrived_in : Option (List ℕ) → Files → Result (List Tx) ℕ
arrived_in None files = Ok []
arrived_in (Some name) files = arrivals (files name)

-- what arrives at a node, and then what does at others; or of the first file with a fault the node and the line
abbrev pub arrived_before : ℕ → Result (List Tx) ℕ → Result (List (List Tx)) BadArrivals → Result (List (List Tx)) BadArrivals
arrived_before node (Err line) others = Err (record { node = node; line = line })
arrived_before node (Ok txs) (Err bad) = Err bad
arrived_before node (Ok txs) (Ok others) = Ok (txs ∷ others)

-- what arrives at so many nodes, which are numbered one after another
abbrev pub all_arrived : Option (List ℕ) → (node count : ℕ) → Files → Result (List (List Tx)) BadArrivals
all_arrived prefix node zero files = Ok []
all_arrived prefix node (suc count) files = arrived_before node (arrived_in (file_at prefix node) files) (all_arrived prefix (node + 1) count files)
