use Rattle.std.proofs.Common.{false, None, rules, sym, true, ◌<◌, ◌≡◌, ◌≤◌, ◌∙◌}
use Rattle.rw_graph.proofs.Forms.{two_too_late, two_with, two_without_y, two_without_z}
use Rattle.rw_graph.proofs.dangers.before.Goals as goal
use Rattle.rw_graph.specs.Graph.{has_edge}
use Rattle.rw_graph.specs.Held.{holds}
use Rattle.rw_graph.specs.Sets.{is_among}
use Rattle.rel_base.proofs.Bits.{second_true}

pub returns-then-not-has : goal.returns-then-not-has
returns-then-not-has c =
    let fails : holds c.args.edges.now.out c.args.y ≡ false = search rules in
    sym (two_without_y c.args.set.now.positions.items c.args.set.now.rising (has_edge c.args.set.now) (holds c.args.edges.now.out) (holds c.args.edges.now.into) c.args.y fails)

pub returns-in_err-z : goal.returns-in_err-z
returns-in_err-z c =
    let none : c.from_residual.result ≡ None = search rules in
    none ∙ sym (two_without_z c.args.set.now.positions.items c.args.set.now.rising (has_edge c.args.set.now) (holds c.args.edges.now.out) (holds c.args.edges.now.into) c.args.y c.in_err-z.ensures)

pub returns-then-z-y : goal.returns-then-z-y
returns-then-z-y c =
    let is_out : holds c.args.edges.now.out c.args.y ≡ true = search rules in
    let low : c.in_ok-z.z < c.args.y = search rules in
    sym (two_with c.args.set.now.positions.items c.args.set.now.rising (has_edge c.args.set.now) (holds c.args.edges.now.out) (holds c.args.edges.now.into) c.args.y
    (λ z has. second_true (is_among c.args.set.now.positions.items c.args.y) (is_among c.args.set.now.positions.items z) (c.args.set.now.between c.args.y z has)) is_out c.in_ok-z.z c.in_ok-z.ensures low)

pub returns-else-z-y : goal.returns-else-z-y
returns-else-z-y c =
    let late : c.args.y ≤ c.in_ok-z.z = search rules in
    sym (two_too_late c.args.set.now.positions.items c.args.set.now.rising (has_edge c.args.set.now) (holds c.args.edges.now.out) (holds c.args.edges.now.into) c.args.y c.in_ok-z.z c.in_ok-z.ensures late)
