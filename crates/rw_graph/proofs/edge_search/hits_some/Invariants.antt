use Rattle.std.proofs.Common.{drop, ◌≡◌}
use Rattle.std.specs.List.{list_any}
use Rattle.rel_base.specs.Late.{hits_in}
use Rattle.rw_graph.proofs.edge_search.hits_some.Given as goal

-- what is left decides the whole
abbrev pub invariant-loop-write : goal.invariant-loop-write
invariant-loop-write l = list_any (hits_in l.tables l.read) (drop l.write-index l.writes) ≡ list_any (hits_in l.tables l.read) l.writes
