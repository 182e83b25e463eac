use Rattle.std.proofs.Common.{rules, None, sym, ◌≡◌, ◌∙◌}
use Rattle.rw_graph.proofs.Forms.{one_with, one_without_x, one_without_z}
use Rattle.rw_graph.proofs.dangers.form_one.Goals as goal
use Rattle.rw_graph.specs.Graph.{has_edge}
use Rattle.rw_graph.specs.Held.{holds}

pub returns-in_err-z : goal.returns-in_err-z
returns-in_err-z c =
    let none : c.from_residual.result ≡ None = search rules in
    none ∙ sym (one_without_z c.args.set.now.positions.items c.args.set.now.rising (has_edge c.args.set.now) (holds c.args.edges.now.out) (holds c.args.edges.now.into) c.in_err-z.ensures.least)

pub returns-in_err-x : goal.returns-in_err-x
returns-in_err-x c =
    let none : c.from_residual-in_err-x.result ≡ None = search rules in
    none ∙ sym (one_without_x c.args.set.now.positions.items c.args.set.now.rising (has_edge c.args.set.now) (holds c.args.edges.now.out) (holds c.args.edges.now.into) c.in_ok-z.z c.in_ok-z.ensures.least c.in_err-x.ensures.least)

pub returns : goal.returns
returns c =
    sym (one_with c.args.set.now.positions.items c.args.set.now.rising (has_edge c.args.set.now) (holds c.args.edges.now.out) (holds c.args.edges.now.into) c.requires.out c.requires.into c.in_ok-z.z c.in_ok-x.x c.in_ok-z.ensures.least c.in_ok-x.ensures.least)
