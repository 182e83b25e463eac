-- The limits of blocks, of runs of procedures and of what a command names, each once. They are this project's own.
use Rattle.std.specs.Prelude.{ℕ}

-- the most transactions of a block
abbrev pub most_transactions : ℕ
most_transactions = 1024

-- the most blocks of a file
abbrev pub most_blocks : ℕ
most_blocks = 1000000

-- the most steps of a run; a run has no more reads, and no more writes
abbrev pub most_steps : ℕ
most_steps = 100000

-- the most nodes of a run
abbrev pub most_nodes : ℕ
most_nodes = 8

-- the most executors of a node
abbrev pub most_executors : ℕ
most_executors = 16

-- the most clients of an order
abbrev pub most_clients : ℕ
most_clients = 8

-- the most transactions of a client
abbrev pub most_submitted : ℕ
most_submitted = 1000000

-- the most peers of a comparison
abbrev pub most_peers : ℕ
most_peers = 8
