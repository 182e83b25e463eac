use Rattle.std.proofs.Common.{ap, drop, length, rules, slice_index_or, ◌+◌, ◌<◌, ◌∙◌, ◌≡◌, ◌∷◌}
use Rattle.std.proofs.lemmas.List.{drop_more}
use Rattle.block_digest.proofs.CommittedWrites.{count_fits}
use Rattle.block_digest.proofs.lent.count_writes.Goals as goal

pub overflow_add-count : goal.overflow_add-count
overflow_add-count c =
    let here : slice_index_or c.args.committed.now c.loop-done.done-index c.done-item.result ≡ c.done-item.result = search rules in
    let within : c.loop-done.done-index < length c.args.committed.now = search rules in
    let left : drop c.loop-done.done-index c.args.committed.now ≡ c.done-item.result ∷ drop (c.loop-done.done-index + 1) c.args.committed.now =
    drop_more c.args.committed.now c.loop-done.done-index c.done-item.result within ∙ ap (λ done. done ∷ drop (c.loop-done.done-index + 1) c.args.committed.now) here in
    let fits = count_fits c.args.committed.now _ _ _ _ c.requires left c.loop-done.invariant in
    let same = c.len-count.ensures in
    search rules
