use Rattle.std.proofs.Common.{arith}
use Rattle.std.proofs.lemmas.Grind.{elements}
use Rattle.rw_graph.proofs.edge_search.hits_rows.Goals as goal

pub hits-requires-clause-read_fits : goal.hits-requires-clause-read_fits
hits-requires-clause-read_fits c = grind (arith, elements)

pub hits-requires-clause-write_fits : goal.hits-requires-clause-write_fits
hits-requires-clause-write_fits c = grind (arith, elements)

pub returns-in-None : goal.returns-in-None
returns-in-None c = grind (arith, elements)

pub returns-in-Some : goal.returns-in-Some
returns-in-Some c = grind (arith, elements)
