use Rattle.std.proofs.Common.{drop, ◌≡◌}
use Rattle.node_model.specs.Edges.{touches}
use Rattle.rw_graph.proofs.edge_search.touches.Given as goal

-- what is left decides the whole
abbrev pub invariant-loop-made : goal.invariant-loop-made
invariant-loop-made l = touches l.tables (drop l.made-index l.reads) l.writes ≡ touches l.tables l.reads l.writes
