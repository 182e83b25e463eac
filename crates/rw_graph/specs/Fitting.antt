-- Reads, writes and committed transactions that fit declared tables.
use Rattle.node_model.specs.declared.result.Committed.{Committed}
use Rattle.rel_base.specs.Among.{ReadFitsIn, WriteFitsIn}
use Rattle.rel_base.specs.declared.access.Made.{Made}
use Rattle.rel_base.specs.declared.access.Write.{Write}
use Rattle.rel_base.specs.declared.schema.TableDef.{TableDef}
use Rattle.std.specs.Prelude.{All, List, ◌≤◌}
use Rattle.proc_syntax.specs.Limits.{most_transactions}

abbrev pub ReadsFit : List TableDef → List Made → Type 0
ReadsFit tables reads = All (λ made. ReadFitsIn tables made.read) reads

abbrev pub WritesFit : List TableDef → List Write → Type 0
WritesFit tables writes = All (WriteFitsIn tables) writes

-- a committed transaction of a block of at most 1,024
pub record IsMember (tables : List TableDef) (done : Committed) : Type 0 where
  pub counts : 1 ≤ done.pos
  pub upto : done.pos ≤ most_transactions
  pub reads : ReadsFit tables done.reads
  pub writes : WritesFit tables done.writes
