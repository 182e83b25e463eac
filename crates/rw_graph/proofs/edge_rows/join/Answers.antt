use Rattle.std.proofs.Common.{rules, true, ◌≡◌}
use Rattle.rw_graph.proofs.Joined.{none_joined}
use Rattle.rw_graph.proofs.edge_rows.join.Goals as goal
use Rattle.rw_graph.specs.Held.{holds}
use Rattle.rw_graph.specs.Sides.{edge_in, edge_out}

-- a position without an edge changes no row
pub returns-else-not-has_none-clause-out : goal.returns-else-not-has_none-clause-out
returns-else-not-has_none-clause-out c =
    let none : c.has_none.result ≡ true = search rules in
    none_joined c.args.pos (holds c.args.edges.now.out) (holds c.args.edges.now.into) (edge_out c.args.rows.now.items) (c.has_none.ensures.out none) (c.has_none.ensures.into none) c.requires.no_out

pub returns-else-not-has_none-clause-into : goal.returns-else-not-has_none-clause-into
returns-else-not-has_none-clause-into c =
    let none : c.has_none.result ≡ true = search rules in
    λ from to.
    none_joined c.args.pos (holds c.args.edges.now.into) (holds c.args.edges.now.out) (edge_in c.args.rows.now.items) (c.has_none.ensures.into none) (c.has_none.ensures.out none) c.requires.no_into to from
