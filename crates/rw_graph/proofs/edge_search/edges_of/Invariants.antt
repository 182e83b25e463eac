use Rattle.std.proofs.Common.{drop, ◌||◌, ◌≡◌, ℕ}
use Rattle.node_model.specs.Edges.{comes_from, leads_to}
use Rattle.rw_graph.proofs.edge_search.edges_of.Given as goal
use Rattle.rw_graph.specs.Held.{holds}

-- the edges so far, and those to what is left, are all
abbrev pub invariant-loop-done : goal.invariant-loop-done
invariant-loop-done l =
    ((pos : ℕ) → (holds l.edges.out pos || leads_to l.tables (drop l.done-index l.done-items) l.reads pos) ≡ leads_to l.tables l.done-items l.reads pos)
    × ((pos : ℕ) → (holds l.edges.into pos || comes_from l.tables (drop l.done-index l.done-items) l.writes pos) ≡ comes_from l.tables l.done-items l.writes pos)
