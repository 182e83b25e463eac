-- Laws of edges and dangers by position. Each is the contract of a function of the module `laws`.
use Rattle.node_model.specs.Danger.{danger, danger_by}
use Rattle.node_model.specs.Edges.{StandByPosition, comes_from, edge_at, leads_to}
use Rattle.node_model.specs.declared.result.Committed.{Committed}
use Rattle.rel_base.specs.declared.access.Made.{Made}
use Rattle.rel_base.specs.declared.access.Write.{Write}
use Rattle.rel_base.specs.declared.schema.TableDef.{TableDef}
use Rattle.rw_graph.specs.Graph.{with_position}
use Rattle.rw_graph.specs.Sets.{AreAmong}
use Rattle.std.specs.Prelude.{All, Bool, List, map, [], ◌++◌, ◌<◌, ◌≡◌, ◌∷◌, ℕ}

-- the positions of committed transactions
abbrev pub places : List Committed → List ℕ
places committed = map (λ done. done.pos) committed

-- the edges of a transaction, by position, are to and from positions of committed ones
abbrev pub EdgesAreAmong : Type 0
EdgesAreAmong = (tables : List TableDef) (committed : List Committed) (reads : List Made) (writes : List Write)
    → AreAmong (places committed) (leads_to tables committed reads) × AreAmong (places committed) (comes_from tables committed writes)

-- the danger among the positions, with the edges by position, is the danger among the transactions, with exact isolation and without
abbrev pub DangerByPosition : Type 0
DangerByPosition = (exact : Bool) (tables : List TableDef) (committed : List Committed) (reads : List Made) (writes : List Write) → StandByPosition committed
    → danger_by (λ pos. pos) (edge_at tables committed) (leads_to tables committed reads) (comes_from tables committed writes) exact (places committed)
    ≡ danger exact tables committed reads writes

-- when one more commits, its edges to and from the others are all that is new
abbrev pub EdgesGrow : Type 0
EdgesGrow = (tables : List TableDef) (committed : List Committed) (done : Committed) → All (λ earlier. earlier.pos < done.pos) committed → (from to : ℕ)
    → with_position (edge_at tables committed) done.pos (leads_to tables committed done.reads) (comes_from tables committed done.writes) from to
    ≡ edge_at tables (committed ++ done ∷ []) from to
