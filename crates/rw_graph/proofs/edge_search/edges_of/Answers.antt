use Rattle.std.proofs.Common.{ap, arith, drop, length, rules, ◌∷◌, ◌+◌, ◌<◌, ◌∙◌, ◌≡◌}
use Rattle.std.proofs.lemmas.Grind.{common_steps}
use Rattle.std.proofs.lemmas.List.{drop_more}
use Rattle.node_model.specs.Edges.{touches}
use Rattle.rw_graph.proofs.Noted.{note_next}
use Rattle.rw_graph.proofs.edge_search.edges_of.Goals as goal
use Rattle.rw_graph.specs.Held.{holds}

pub loop-done-preserved : goal.loop-done-preserved
loop-done-preserved c =
    let all = c.as_slice-done-items.result.now in
    let done = c.done-item.result in
    let after = drop (c.loop-done.done-index + 1) all in
    let within : c.loop-done.done-index < length c.as_slice-done-items.result.now = search rules in
    let left : drop c.loop-done.done-index c.as_slice-done-items.result.now ≡ c.done-item.result ∷ drop (c.loop-done.done-index + 1) c.as_slice-done-items.result.now =
    drop_more c.as_slice-done-items.result.now c.loop-done.done-index c.done-item.result within ∙ ap (λ first. first ∷ drop (c.loop-done.done-index + 1) c.as_slice-done-items.result.now) (search rules) in (
      note_next (λ x. x.pos) (λ x. touches c.args.tables.now c.args.reads.now x.writes) all _ after done (holds c.loop-done.edges.out) (holds c.note.new.edges.out) left c.loop-done.invariant.0 (search rules),
      note_next (λ x. x.pos) (λ x. touches c.args.tables.now x.reads c.args.writes.now) all _ after done (holds c.loop-done.edges.into) (holds c.note.new.edges.into) left c.loop-done.invariant.1 (search rules),
    )

pub returns-clause-out : goal.returns-clause-out
returns-clause-out c = grind (arith, common_steps)

pub returns-clause-into : goal.returns-clause-into
returns-clause-into c = grind (arith, common_steps)
