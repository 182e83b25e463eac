use Rattle.rw_graph.specs.Graph.{positions_of}
use Rattle.rw_graph.specs.Held.{holds}
use Rattle.rw_graph.specs.Sets.{AreAmong}
use Rattle.graph_tests.proofs.building.bits_of.Given as goal

-- those so far that were put in are of the set
abbrev pub invariant-loop-pos : goal.invariant-loop-pos
invariant-loop-pos l = AreAmong (positions_of l.set) (holds l.bits)
