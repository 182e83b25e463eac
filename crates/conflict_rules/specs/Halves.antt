-- The half of a transaction that its edges are looked for by: its reads or its writes.
use Rattle.conflict_rules.specs.declared.walk.Half.TheVariants.{Reads, Writes}
use Rattle.conflict_rules.specs.declared.walk.Half.{Half}
use Rattle.node_model.specs.Edges.{touches}
use Rattle.node_model.specs.declared.result.Committed.{Committed}
use Rattle.rel_base.specs.declared.schema.TableDef.{TableDef}
use Rattle.rw_graph.specs.Fitting.{ReadsFit, WritesFit}
use Rattle.std.specs.Bool.{nat_eq}
use Rattle.std.specs.List.{list_any}
use Rattle.std.specs.Prelude.{Bool, List, ◌&&◌, ℕ}

-- a half fits declared tables
abbrev pub HalfFits : List TableDef → Half → Type 0
HalfFits tables (Reads reads) = ReadsFit tables reads.now
HalfFits tables (Writes writes) = WritesFit tables writes.now

-- there is an edge with a committed transaction: the reads of the one touch the writes of the other
abbrev pub meets : List TableDef → Half → Committed → Bool
meets tables (Reads reads) done = touches tables reads.now done.writes
meets tables (Writes writes) done = touches tables done.reads writes.now

-- the positions of committed transactions with an edge
abbrev pub has_half_edge : List TableDef → List Committed → Half → ℕ → Bool
has_half_edge tables committed half pos = list_any (λ done. nat_eq done.pos pos && meets tables half done) committed
