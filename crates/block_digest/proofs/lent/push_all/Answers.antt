use Rattle.std.proofs.Common.{All, ap, drop, length, map, rules, slice_index_or, subst, sym, ◌++◌, ◌+◌, ◌<◌, ◌∙◌, ◌≡◌, ◌∷◌}
use Rattle.std.proofs.lemmas.List.{drop_more}
use Rattle.std.specs.List.{flat_map}
use Rattle.block_digest.proofs.CommittedWrites.{next_written, others_few, own_few}
use Rattle.block_digest.proofs.lent.push_all.Goals as goal
use Rattle.block_digest.specs.Codable.{IsFewWrite}
use Rattle.block_digest.specs.Lent.{placed_at}
use Rattle.canon_code.specs.Writes.{write_code}
use Rattle.node_model.specs.History.{placed_of}

pub push_each-requires : goal.push_each-requires
push_each-requires c =
    let here : slice_index_or c.args.committed.now c.loop-done.done-index c.done-item.result ≡ c.done-item.result = search rules in
    let within : c.loop-done.done-index < length c.args.committed.now = search rules in
    let left : drop c.loop-done.done-index c.args.committed.now ≡ c.done-item.result ∷ drop (c.loop-done.done-index + 1) c.args.committed.now =
    drop_more c.args.committed.now c.loop-done.done-index c.done-item.result within ∙ ap (λ done. done ∷ drop (c.loop-done.done-index + 1) c.args.committed.now) here in
    subst (All (λ write. IsFewWrite (placed_at c.done-item.result.pos write))) (sym c.as_slice.ensures) (own_few _ _ c.done-item.result left c.loop-done.invariant.1)

pub loop-done-preserved : goal.loop-done-preserved
loop-done-preserved c =
    let here : slice_index_or c.args.committed.now c.loop-done.done-index c.done-item.result ≡ c.done-item.result = search rules in
    let within : c.loop-done.done-index < length c.args.committed.now = search rules in
    let left : drop c.loop-done.done-index c.args.committed.now ≡ c.done-item.result ∷ drop (c.loop-done.done-index + 1) c.args.committed.now =
    drop_more c.args.committed.now c.loop-done.done-index c.done-item.result within ∙ ap (λ done. done ∷ drop (c.loop-done.done-index + 1) c.args.committed.now) here in
    let wrote = c.in_ok-push_each.ensures ∙ ap (λ writes. c.loop-done.out.items ++ flat_map write_code (map (placed_at c.done-item.result.pos) writes)) c.as_slice.ensures in (
      next_written c.loop-done.out.items c.push_each.new.out.items (c.args.out.now.items ++ flat_map write_code (placed_of c.args.committed.now)) _ _ c.done-item.result left wrote c.loop-done.invariant.0,
      others_few _ _ c.done-item.result left c.loop-done.invariant.1,
    )
