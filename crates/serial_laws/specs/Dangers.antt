-- The dangers by positions: a transaction T, which made some reads and writes, among those that committed before it in its block.
-- (Where they come from is said with `danger` of node_model.)
use Rattle.serial_laws.specs.Least.{IsLeastPair, NoPair}
use Rattle.node_model.specs.Edges.{comes_from, edge_at, leads_to}
use Rattle.node_model.specs.Paths.{IsLeastPath, IsPathAmong}
use Rattle.node_model.specs.declared.danger.Danger.TheVariants.{Cycle, One, Two}
use Rattle.node_model.specs.declared.danger.Danger.{Danger}
use Rattle.node_model.specs.declared.result.Committed.{Committed}
use Rattle.rel_base.specs.declared.access.Made.{Made}
use Rattle.rel_base.specs.declared.access.Write.{Write}
use Rattle.rel_base.specs.declared.schema.TableDef.{TableDef}
use Rattle.rw_graph.specs.Laws.{places}
use Rattle.std.specs.Prelude.{Bool, IsTrue, List, false, true, ◌<◌, ◌≤◌, ℕ}

module _ (tables : List TableDef) (committed : List Committed) (reads : List Made) (writes : List Write) where
  -- form one: T has an edge to position z, and position x has one to T, and z does not stand after x
  abbrev pub AreInFormOne : ℕ → ℕ → Type 0
  AreInFormOne z x = IsTrue (leads_to tables committed reads z) × IsTrue (comes_from tables committed writes x) × (z ≤ x)

  -- form two: T has an edge to position y, and y has one to position z, and z stands before y
  abbrev pub AreInFormTwo : ℕ → ℕ → Type 0
  AreInFormTwo y z = IsTrue (leads_to tables committed reads y) × IsTrue (edge_at tables committed y z) × (z < y)

  -- with exact isolation: no positions are a path from T back to T; without: no two positions are in either form
  abbrev pub HasNoDanger : Bool → Type 0
  HasNoDanger true = (path : List ℕ) → IsPathAmong (λ pos. pos) (edge_at tables committed) (leads_to tables committed reads) (comes_from tables committed writes) (places committed) path → ⊥
  HasNoDanger false = NoPair AreInFormOne × NoPair AreInFormTwo

  -- with exact isolation the least path; without, form one with the least z and then the least x, or form two, where none are in form one,
  -- with the least y and then the least z
  abbrev pub IsLeastDanger : Bool → Danger → Type 0
  IsLeastDanger true (Cycle path) =
      IsLeastPath (λ pos. pos) (edge_at tables committed) (leads_to tables committed reads) (comes_from tables committed writes) (places committed) path
  IsLeastDanger false (One z x) = IsLeastPair (λ position other. position ≤ other) AreInFormOne z x
  IsLeastDanger false (Two y z) = NoPair AreInFormOne × IsLeastPair (λ position other. position ≤ other) AreInFormTwo y z
  IsLeastDanger _ _ = ⊥
