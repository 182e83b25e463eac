-- Edges between the transactions of one block: one leads from a transaction to another where some read of the first hits some
-- write of the second. (They are the read-write conflicts of serializable snapshot isolation: Fekete and others, TODS 30(2), 2005.)
use Rattle.node_model.specs.declared.result.Committed.{Committed}
use Rattle.rel_base.specs.Late.{hits_in}
use Rattle.rel_base.specs.declared.access.Made.{Made}
use Rattle.rel_base.specs.declared.access.Write.{Write}
use Rattle.rel_base.specs.declared.schema.TableDef.{TableDef}
use Rattle.std.specs.Bool.{nat_eq}
use Rattle.std.specs.List.{list_any}
use Rattle.std.specs.Prelude.{AllPairs, Bool, List, not, ◌&&◌, ◌<◌, ℕ}

-- some read hits some write
abbrev pub touches : List TableDef → List Made → List Write → Bool
touches tables reads writes = list_any (λ made. list_any (hits_in tables made.read) writes) reads

-- an edge from one committed transaction to another: they stand at different positions, and the reads of one touch the writes of the other
abbrev pub edge : List TableDef → Committed → Committed → Bool
edge tables from to = not (nat_eq from.pos to.pos) && touches tables from.reads to.writes

-- the positions to which a transaction that made some reads has an edge, among those that committed before it in its block
abbrev pub leads_to : List TableDef → List Committed → List Made → ℕ → Bool
leads_to tables committed reads pos = list_any (λ done. nat_eq done.pos pos && touches tables reads done.writes) committed

-- the positions that have an edge to a transaction that made some writes
abbrev pub comes_from : List TableDef → List Committed → List Write → ℕ → Bool
comes_from tables committed writes pos = list_any (λ done. nat_eq done.pos pos && touches tables done.reads writes) committed

-- the edges among committed transactions, by their positions
abbrev pub edge_at : List TableDef → List Committed → ℕ → ℕ → Bool
edge_at tables committed from to =
    list_any (λ first. nat_eq first.pos from && list_any (λ second. nat_eq second.pos to && edge tables first second) committed) committed

-- committed transactions whose positions rise
abbrev pub StandByPosition : List Committed → Type 0
StandByPosition committed = AllPairs (λ earlier later. earlier.pos < later.pos) committed
