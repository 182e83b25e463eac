use Rattle.std.proofs.Common.{ap, sym, ◌∙◌}
use Rattle.rw_graph.proofs.edge_set.EdgeSet.has.Goals as goal
use Rattle.rw_graph.specs.Sides.{edge_out}

pub returns-in-None : goal.returns-in-None
returns-in-None c = sym (c.in-None.ensures c.args.to).0 ∙ ap (λ rows. edge_out rows c.args.from c.args.to) c.as_slice.ensures.value

pub returns-in-Some : goal.returns-in-Some
returns-in-Some c = c.has.ensures ∙ c.in-Some.ensures.0 c.args.to ∙ ap (λ rows. edge_out rows c.args.from c.args.to) c.as_slice.ensures.value
